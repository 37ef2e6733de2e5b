use Rattle.std.proofs.Common.{◌≡◌, ◌+◌, ℕ, List, Some, length}
use Rattle.dv_signed.specs.Certificates.{AreLeft, certificates_in}
use Rattle.dv_signed.proofs.certificates.count_certificates.Given as goal

abbrev pub invariant-loop-next : goal.invariant-loop-next
invariant-loop-next l = (cs : List (List ℕ)) × AreLeft cs l.next × (l.count + length cs ≡ length (certificates_in (Some l.set)))

abbrev pub decreases-loop-next : goal.decreases-loop-next
decreases-loop-next l = length l.next.rest
