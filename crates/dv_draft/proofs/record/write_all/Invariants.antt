use Rattle.std.proofs.Common.{take}
use Rattle.std.specs.List.{concat}
use Rattle.dv_asn1.specs.Lists.{lists_of}
use Rattle.dv_asn1.specs.Writing.{Writes}
use Rattle.dv_draft.proofs.record.write_all.Given as goal

abbrev pub invariant-loop-certificate : goal.invariant-loop-certificate
invariant-loop-certificate l = Writes l.fn.out l.out (concat (lists_of (take l.certificate-index l.certificates)))
