use Rattle.std.proofs.Common.{◌≡◌, ◌≤◌, ◌*◌, length, take}
use Rattle.dv_svc_pkc.specs.Validated.{entries_in}
use Rattle.dv_svc_pkc.proofs.entries.entries_len.Given as goal

abbrev pub invariant-loop-finding : goal.invariant-loop-finding
invariant-loop-finding l = (l.total ≡ length (entries_in (take l.finding-index l.findings))) × (l.total ≤ 1099511627776 * l.finding-index)
