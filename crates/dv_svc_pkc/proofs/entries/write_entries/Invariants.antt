use Rattle.std.proofs.Common.{take}
use Rattle.dv_asn1.specs.Writing.{Writes}
use Rattle.dv_svc_pkc.specs.Validated.{entries_in}
use Rattle.dv_svc_pkc.proofs.entries.write_entries.Given as goal

abbrev pub invariant-loop-finding : goal.invariant-loop-finding
invariant-loop-finding l = Writes l.fn.out l.out (entries_in (take l.finding-index l.findings))
