use Rattle.std.proofs.Common.{◌≡◌, ◌≤◌, length, take}
use Rattle.std.specs.Prelude.{sum_by}
use Rattle.dv_draft.proofs.record.octets_len.Given as goal

abbrev pub invariant-loop-certificate : goal.invariant-loop-certificate
invariant-loop-certificate l = (l.total ≡ sum_by (λ v. length v.items) (take l.certificate-index l.certificates)) × (l.total ≤ 17592186044415)
