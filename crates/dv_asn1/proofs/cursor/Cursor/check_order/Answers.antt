use Rattle.std.proofs.Common.{◌≡◌, ℕ, List, length, eqb, true, false, sym, ap, subst, ◌∙◌}
use Rattle.dv_schema.specs.Octets.{is_less}
use Rattle.dv_schema.specs.Reading.{Spot}
use Rattle.dv_schema.specs.Answers.{ordered_at}
use Rattle.dv_schema.specs.Answers.{IsSplit}
use Rattle.dv_schema.proofs.Orders.{order_first, order_none, order_end, order_turn, order_bad, split_turn, split_err, next_less}
use Rattle.dv_asn1.proofs.cursor.Cursor.check_order.Goals as goal

pub returns-then-at_end : goal.returns-then-at_end
returns-then-at_end c =
    let none : eqb (length c.fork-next.result.rest) 0 ≡ true = cc in
    ap ordered_at (sym c.fork-next.ensures.same) ∙ order_none c.fork-next.result none

pub returns-in_err-last : goal.returns-in_err-last
returns-in_err-last c =
    let some : eqb (length c.fork-next.result.rest) 0 ≡ false = cc in
    absurd (split_err c.fork-next.result c.in_err-last.field-0.0 (subst IsSplit (sym c.fork-next.ensures.same) c.requires) some c.in_err-last.ensures.0)

pub loop-next-init : goal.loop-next-init
loop-next-init c =
    let some : eqb (length c.fork-next.result.rest) 0 ≡ false = cc in
    let x : List ℕ × Spot = (c.in_ok-last.last.now, c.next_value.new.self) in (
      split_turn c.fork-next.result x (subst IsSplit (sym c.fork-next.ensures.same) c.requires) some c.in_ok-last.ensures,
      sym (order_first c.fork-next.result x some c.in_ok-last.ensures) ∙ ap ordered_at c.fork-next.ensures.same,
    )

pub returns-in_err-octets : goal.returns-in_err-octets
returns-in_err-octets c =
    let some : eqb (length c.loop-next.next.rest) 0 ≡ false = cc in
    absurd (split_err c.loop-next.next c.in_err-octets.field-0.0 c.loop-next.invariant.0 some c.in_err-octets.ensures.0)

pub returns-then-is_less : goal.returns-then-is_less
returns-then-is_less c =
    let some : eqb (length c.loop-next.next.rest) 0 ≡ false = cc in
    let y : List ℕ × Spot = (c.in_ok-octets.octets.now, c.next_value-in-loop-next.new.self) in
    let less : is_less c.in_ok-octets.octets.now c.loop-next.last.now ≡ true = cc in
    rw c.refusal-refusal.ensures (sym c.loop-next.invariant.1 ∙ order_bad c.loop-next.last.now c.loop-next.next y c.loop-next.invariant.0 some c.in_ok-octets.ensures less)

pub loop-next-smaller : goal.loop-next-smaller
loop-next-smaller c =
    let y : List ℕ × Spot = (c.in_ok-octets.octets.now, c.next_value-in-loop-next.new.self) in
    next_less c.loop-next.next y c.in_ok-octets.ensures

pub loop-next-preserved : goal.loop-next-preserved
loop-next-preserved c =
    let some : eqb (length c.loop-next.next.rest) 0 ≡ false = cc in
    let y : List ℕ × Spot = (c.in_ok-octets.octets.now, c.next_value-in-loop-next.new.self) in
    let less : is_less c.in_ok-octets.octets.now c.loop-next.last.now ≡ false = cc in (
      split_turn c.loop-next.next y c.loop-next.invariant.0 some c.in_ok-octets.ensures,
      sym (order_turn c.loop-next.last.now c.loop-next.next y some c.in_ok-octets.ensures less) ∙ c.loop-next.invariant.1,
    )

pub returns : goal.returns
returns c =
    let none : eqb (length c.loop-next.next.rest) 0 ≡ true = cc in
    sym c.loop-next.invariant.1 ∙ order_end c.loop-next.last.now c.loop-next.next none
