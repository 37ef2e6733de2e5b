use Rattle.std.proofs.Common.{◌≡◌, ◌||◌, take}
use Rattle.std.specs.Prelude.{map}
use Rattle.dv_x509.specs.View.{view_certificate}
use Rattle.dv_x509.specs.Uses.{asserts}
use Rattle.dv_path.specs.Rows.{octets_of}
use Rattle.dv_path.proofs.demand.column.Given as goal

abbrev pub invariant-loop-policy : goal.invariant-loop-policy
invariant-loop-policy l = l.column.items ≡ map (λ policy. asserts (view_certificate l.certificate) policy || l.any) (octets_of (take l.policy-index l.policies))
