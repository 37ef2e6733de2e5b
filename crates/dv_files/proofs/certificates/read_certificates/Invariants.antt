use Rattle.std.proofs.Common.{◌-◌}
use Rattle.dv_asn1.specs.Lists.{lists_of}
use Rattle.dv_files.specs.Certificates.{AreSoFar}
use Rattle.dv_files.proofs.certificates.read_certificates.Given as goal

abbrev pub invariant-loop-alloc : goal.invariant-loop-alloc
invariant-loop-alloc l = AreSoFar 6 l.octets (lists_of l.certificates.items) l.next

abbrev pub decreases-loop-alloc : goal.decreases-loop-alloc
decreases-loop-alloc l = 6 - l.certificates.len
