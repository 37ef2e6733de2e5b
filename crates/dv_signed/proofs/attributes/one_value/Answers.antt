use Rattle.std.proofs.Common.{◌≡◌, ◌∙◌, ℕ, Ok, Err, List, sym, ap}
use Rattle.dv_schema.specs.Types.{any}
use Rattle.dv_schema.specs.Reading.{Spot, read}
use Rattle.dv_members.specs.Members.{front_of}
use Rattle.dv_signed.proofs.AttributeLists.{one_alone, one_of_many, one_refused}
use Rattle.dv_signed.proofs.attributes.one_value.Goals as goal

pub returns-in-Err : goal.returns-in-Err
unfolding read
returns-in-Err c =
    let e : read any (front_of c.args.values.now) ≡ Err c.in-Err.field-0 = ap (read any) (sym c.new-next.ensures) ∙ c.in-Err.ensures.0 in
    one_refused c.args.values.now c.in-Err.field-0 e

pub returns-then-at_end : goal.returns-then-at_end
unfolding read
returns-then-at_end c =
    let x : List ℕ × Spot = (c.in-Ok.value.now, c.skip_value.new.self) in
    let e : read any (front_of c.args.values.now) ≡ Ok x = ap (read any) (sym c.new-next.ensures) ∙ c.in-Ok.ensures in
    one_alone c.args.values.now x e (sym c.at_end.ensures ∙ c.if-at_end.true)

pub returns-else-at_end : goal.returns-else-at_end
unfolding read
returns-else-at_end c =
    let x : List ℕ × Spot = (c.in-Ok.value.now, c.skip_value.new.self) in
    let e : read any (front_of c.args.values.now) ≡ Ok x = ap (read any) (sym c.new-next.ensures) ∙ c.in-Ok.ensures in
    one_of_many c.args.values.now x e (sym c.at_end.ensures ∙ c.if-at_end.false)
