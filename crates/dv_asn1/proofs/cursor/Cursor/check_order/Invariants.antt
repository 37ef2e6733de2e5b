use Rattle.std.proofs.Common.{◌≡◌, length}
use Rattle.dv_schema.specs.Answers.{ordered_at}
use Rattle.dv_schema.proofs.Orders.{left_at}
use Rattle.dv_schema.specs.Answers.{IsSplit}
use Rattle.dv_asn1.proofs.cursor.Cursor.check_order.Given as goal

abbrev pub invariant-loop-next : goal.invariant-loop-next
invariant-loop-next l = IsSplit l.next × (left_at l.last l.next ≡ ordered_at l.self)

abbrev pub decreases-loop-next : goal.decreases-loop-next
decreases-loop-next l = length l.next.rest
