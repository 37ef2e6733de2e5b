use Rattle.std.proofs.Common.{◌≡◌, ◌+◌, ℕ, List, Some, length}
use Rattle.std.specs.Prelude.{slice_get}
use Rattle.dv_signed.specs.Certificates.{AreLeft, certificates_in}
use Rattle.dv_signed.proofs.certificates.certificate_at.Given as goal

abbrev pub invariant-loop-certificate : goal.invariant-loop-certificate
invariant-loop-certificate l = (cs : List (List ℕ)) × AreLeft cs l.next × (slice_get cs l.left ≡ slice_get (certificates_in (Some l.set)) l.i) × (length (certificates_in (Some l.set)) + l.left ≡ length cs + l.i)

abbrev pub decreases-loop-certificate : goal.decreases-loop-certificate
decreases-loop-certificate l = length l.next.rest
