use Rattle.std.proofs.Common.{◌≡◌, ◌+◌, ◌≤◌, length}
use Rattle.dv_schema.specs.Reading.{all_at, read}
use Rattle.dv_schema.specs.Answers.{counted}
use Rattle.dv_asn1.proofs.members.count_members.Given as goal

abbrev pub invariant-loop-next : goal.invariant-loop-next
invariant-loop-next g l = (counted l.count (all_at (read g.T.Member.schema) (length l.next.rest) l.next)
    ≡ counted 0 (all_at (read g.T.Member.schema) (length l.contents.rest) l.contents)) × (l.count + length l.next.rest ≤ length l.contents.rest)

abbrev pub decreases-loop-next : goal.decreases-loop-next
decreases-loop-next g l = length l.next.rest
