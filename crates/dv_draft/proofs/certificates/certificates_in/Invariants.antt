use Rattle.std.proofs.Common.{◌-◌}
use Rattle.dv_asn1.specs.Lists.{lists_of}
use Rattle.dv_draft.proofs.CertificateLists.{IsSoFar}
use Rattle.dv_draft.proofs.certificates.certificates_in.Given as goal

abbrev pub invariant-loop-next : goal.invariant-loop-next
invariant-loop-next l = IsSoFar l.own l.fn.contents (lists_of l.certificates.items) l.next

abbrev pub decreases-loop-next : goal.decreases-loop-next
decreases-loop-next l = 6 - l.certificates.len
