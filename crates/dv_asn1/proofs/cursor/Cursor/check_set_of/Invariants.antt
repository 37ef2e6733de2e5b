use Rattle.std.proofs.Common.{◌≡◌, length}
use Rattle.dv_schema.specs.Reading.{all_at, read}
use Rattle.dv_schema.specs.Answers.{skipped}
use Rattle.dv_schema.specs.Types.{any}
use Rattle.dv_asn1.proofs.cursor.Cursor.check_set_of.Given as goal

abbrev pub invariant-loop-next : goal.invariant-loop-next
invariant-loop-next l = skipped (all_at (read any) (length l.next.rest) l.next) ≡ skipped (all_at (read any) (length l.self.rest) l.self)

abbrev pub decreases-loop-next : goal.decreases-loop-next
decreases-loop-next l = length l.next.rest
