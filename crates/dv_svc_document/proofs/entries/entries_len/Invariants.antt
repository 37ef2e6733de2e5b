use Rattle.std.proofs.Common.{◌≡◌, ◌≤◌, ◌*◌, length, take}
use Rattle.dv_svc_document.specs.Kept.{octets_in}
use Rattle.dv_svc_document.proofs.entries.entries_len.Given as goal

abbrev pub invariant-loop-entry : goal.invariant-loop-entry
invariant-loop-entry l = (l.total ≡ length (octets_in (take l.entry-index l.entries))) × (l.total ≤ 49216 * l.entry-index)
