use Rattle.std.proofs.Common.{◌≡◌, ℕ, List, length, eqb, true, false, sym, subst, ◌∙◌, refl}
use Rattle.std.proofs.lemmas.Result.{err_from_is_err_and}
use Rattle.dv_schema.specs.Types.{any}
use Rattle.dv_schema.specs.Reading.{Spot, read}
use Rattle.dv_schema.specs.Answers.{Gives}
use Rattle.dv_schema.proofs.Moves.{moves, read_moves, skip_one, skip_err, skip_none}
use Rattle.dv_schema.proofs.Orders.{members_split, set_ok, set_err}
use Rattle.dv_asn1.proofs.cursor.Cursor.check_set_of.Goals as goal

pub loop-next-smaller : goal.loop-next-smaller
unfolding read
loop-next-smaller c =
    let x : List ℕ × Spot = (c.in_ok-skip_value.field-0.now, c.skip_value.new.self) in
    (moves any c.loop-next.next x c.in_ok-skip_value.ensures).less

pub loop-next-preserved : goal.loop-next-preserved
unfolding read
loop-next-preserved c =
    let at : Spot = c.loop-next.next in
    let x : List ℕ × Spot = (c.in_ok-skip_value.field-0.now, c.skip_value.new.self) in
    let some : eqb (length at.rest) 0 ≡ false = cc in
    sym (skip_one (read any) at x (read_moves any) some c.in_ok-skip_value.ensures) ∙ c.loop-next.invariant

pub returns-in_err-skip_value : goal.returns-in_err-skip_value
unfolding read
returns-in_err-skip_value c =
    let p = err_from_is_err_and c.from_residual.result c.from_residual.ensures.1 in
    let at : Spot = c.loop-next.next in
    let some : eqb (length at.rest) 0 ≡ false = cc in
    let fault = skip_err (read any) at c.in_err-skip_value.field-0.0 some c.in_err-skip_value.ensures.0 in
    rw (p.1, p.2) (set_err any false 0 c.args.self.now c.in_err-skip_value.field-0.0 refl (sym c.loop-next.invariant ∙ fault))

pub check_order-requires : goal.check_order-requires
check_order-requires c =
    let at : Spot = c.loop-next.next in
    let none : eqb (length at.rest) 0 ≡ true = cc in
    members_split any c.args.self.now c.fork-next.ensures.octets (sym c.loop-next.invariant ∙ skip_none (read any) at none)

pub returns : goal.returns
returns c =
    let at : Spot = c.loop-next.next in
    let none : eqb (length at.rest) 0 ≡ true = cc in
    let is = set_ok any false 0 c.args.self.now c.fork-next.ensures.octets refl (sym c.loop-next.invariant ∙ skip_none (read any) at none) in
    subst (Gives (λ x. x) c.check_order.result) (sym is) c.check_order.ensures
