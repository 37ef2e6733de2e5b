use Rattle.std.proofs.Common.{take}
use Rattle.dv_asn1.specs.Writing.{Writes}
use Rattle.dv_svc_document.specs.Kept.{octets_in}
use Rattle.dv_svc_document.proofs.entries.write_entries.Given as goal

abbrev pub invariant-loop-entry : goal.invariant-loop-entry
invariant-loop-entry l = Writes l.fn.out l.out (octets_in (take l.entry-index l.entries))
