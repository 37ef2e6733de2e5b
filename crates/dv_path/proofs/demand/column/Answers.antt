use Rattle.std.proofs.Common.{◌≤◌, ◌∙◌, ◌||◌, List, ℕ, ap, length, arith}
use Rattle.std.specs.Prelude.{map}
use Rattle.std.specs.Borrow.{Bor}
use Rattle.std.proofs.lemmas.List.{take_all}
use Rattle.dv_x509.specs.View.{view_certificate}
use Rattle.dv_x509.specs.Uses.{asserts}
use Rattle.dv_path.specs.Rows.{octets_of}
use Rattle.dv_path.proofs.demand.column.Goals as goal

pub returns : goal.returns
returns c =
    let all : length c.args.policies.now ≤ c.loop-policy.policy-index = omega arith in
    c.loop-policy.invariant ∙ ap (λ (ps : List (Bor (List ℕ))). map (λ policy. asserts (view_certificate c.args.certificate.now) policy || c.args.any) (octets_of ps)) (take_all c.loop-policy.policy-index c.args.policies.now all)
