use Rattle.std.proofs.Common.{◌≡◌, true, false, length, eqb, refl, sym, ap, ◌∙◌}
use Rattle.std.specs.List.{list_any}
use Rattle.dv_schema.specs.Schema.{ValueOf}
use Rattle.dv_schema.specs.Reading.{Spot, all_at, read}
use Rattle.dv_schema.proofs.Moves.{moves}
use Rattle.dv_schema.proofs.Counts.{member_turn, member_fault, member_none}
use Rattle.dv_names.specs.Types.{extension}
use Rattle.dv_names.specs.Views.{view_extension}
use Rattle.dv_answer.specs.Steps.{is_critical}
use Rattle.dv_answer.proofs.StepLemmas.{any_here, any_behind}
use Rattle.dv_answer.proofs.steps.any_critical.Goals as goal

pub loop-next-init : goal.loop-next-init
loop-next-init c = λ vs e. (vs, ap (λ (p : Spot). all_at (read extension) (length p.rest) p) c.new-next.ensures ∙ e, refl)

pub returns-in-Err : goal.returns-in-Err
returns-in-Err c = λ vs e.
    (let some : eqb (length c.loop-next.next.rest) 0 ≡ false = sym c.at_end.ensures ∙ c.loop-next-test.true in
    let w = c.loop-next.invariant vs e in
    absurd (member_fault extension c.loop-next.next c.in-Err.field-0 w.0 some c.in-Err.ensures.0 w.1))

pub returns-then-is_critical : goal.returns-then-is_critical
returns-then-is_critical c = λ vs e.
    (let some : eqb (length c.loop-next.next.rest) 0 ≡ false = sym c.at_end.ensures ∙ c.loop-next-test.true in
    let w = c.loop-next.invariant vs e in
    let v : ValueOf extension = view_extension c.in-Ok.extension in
    let t = member_turn extension c.loop-next.next (v, c.read.new.c) w.0 some c.in-Ok.ensures w.1 in
    let is : is_critical v ≡ true = sym c.is_critical.ensures ∙ c.if-is_critical.true in
    any_here is_critical v t.0 is ∙ ap (list_any is_critical) t.2 ∙ w.2)

pub loop-next-smaller : goal.loop-next-smaller
loop-next-smaller c =
    let x : ValueOf extension × Spot = (view_extension c.in-Ok.extension, c.read.new.c) in
    (moves extension c.loop-next.next x c.in-Ok.ensures).less

pub loop-next-preserved : goal.loop-next-preserved
loop-next-preserved c = λ vs e.
    (let some : eqb (length c.loop-next.next.rest) 0 ≡ false = sym c.at_end.ensures ∙ c.loop-next-test.true in
    let w = c.loop-next.invariant vs e in
    let v : ValueOf extension = view_extension c.in-Ok.extension in
    let t = member_turn extension c.loop-next.next (v, c.read.new.c) w.0 some c.in-Ok.ensures w.1 in
    let other : is_critical v ≡ false = sym c.is_critical.ensures ∙ c.if-is_critical.false in
    (t.0, t.1, any_behind is_critical v t.0 other ∙ ap (list_any is_critical) t.2 ∙ w.2))

pub returns : goal.returns
returns c = λ vs e.
    (let none : eqb (length c.loop-next.next.rest) 0 ≡ true = sym c.at_end.ensures ∙ c.loop-next-test.false in
    let w = c.loop-next.invariant vs e in
    ap (list_any is_critical) (member_none extension c.loop-next.next w.0 none w.1) ∙ w.2)
