use Rattle.std.proofs.Common.{◌≡◌, ◌∙◌, sym, refl, ap, ℕ, List, None, length, eqb, eq-eqb, false, true, ◌/◌, ◌%◌}
use Rattle.dv_schema.specs.Rules.{is_allowed}
use Rattle.std.proofs.lemmas.Bool.{ne_eqb}
use Rattle.dv_schema.specs.Reading.{Spot, Item, all_at, whole_at}
use Rattle.dv_schema.specs.Answers.{skipped}
use Rattle.dv_schema.proofs.Moves.{whole_err, whole_moves, whole_is_mover, skip_one, skip_err, skip_none, node_ok, node_err, leaf_ok, leaf_err}
use Rattle.std.proofs.lemmas.Result.{err_from_is_err_and}
use Rattle.dv_asn1.proofs.cursor.Cursor.+skip_value.Goals as goal
use Rattle.dv_asn1.proofs.cursor.Cursor.+skip_value.Goals.{then-tag-eq1+else-loop-inside-test, else-tag-eq1+else-not-is_allowed}

pub loop-inside-smaller : goal.loop-inside-smaller
loop-inside-smaller t c =
    let at : Spot = c.loop-inside.inside in
    let x : List ℕ × Spot = (c.in_ok-skip_value.field-0.now, c.skip_value.new.self) in
    (whole_moves at.levels None at x c.in_ok-skip_value.ensures).less

pub loop-inside-preserved : goal.loop-inside-preserved
loop-inside-preserved t c =
    let at : Spot = c.loop-inside.inside in
    let next : Spot = c.skip_value.new.self in
    let x : List ℕ × Spot = (c.in_ok-skip_value.field-0.now, next) in
    let m = whole_moves at.levels None at x c.in_ok-skip_value.ensures in
    let some : eqb (length at.rest) 0 ≡ false = cc in
    let one = skip_one (whole_at None at.levels) at x (whole_is_mover at.levels) some c.in_ok-skip_value.ensures in (
      ap (λ (n : ℕ). skipped (all_at (whole_at None n) (length next.rest) next)) m.levels ∙ sym one ∙ c.loop-inside.invariant.0,
      m.levels ∙ c.loop-inside.invariant.1,
    )

pub returns-in_err-tag : goal.returns-in_err-tag
returns-in_err-tag t c =
    let p = err_from_is_err_and c.from_residual.result c.from_residual.ensures.1 in
    rw (p.1, p.2) (whole_err c.args.self.now c.in_err-tag.field-0.0 c.in_err-tag.ensures.item, refl)

pub returns-in_err-skip_value : goal.returns-in_err-skip_value
returns-in_err-skip_value t c =
    let p = err_from_is_err_and c.from_residual-in_err-skip_value.result c.from_residual-in_err-skip_value.ensures.1 in
    let at : Spot = c.loop-inside.inside in
    let i : Item = record { tag = c.in_ok-tag.tag; inside = c.in_ok-tag.inside; after = c.in_ok-tag.after } in
    let some : eqb (length at.rest) 0 ≡ false = cc in
    let fault = skip_err (whole_at None at.levels) at c.in_err-skip_value.field-0.0 some c.in_err-skip_value.ensures.0 in
    rw (p.1, p.2) (
      node_err c.args.self.now i c.in_err-skip_value.field-0.0 c.in_ok-tag.ensures.item.0 c.in_ok-tag.ensures.levels (eq-eqb _ _ c.if-tag-eq1.true)
          (sym c.loop-inside.invariant.0 ∙ fault),
      refl,
    )

pub returns-then-not-is_allowed : goal.returns-then-not-is_allowed
returns-then-not-is_allowed t c =
    let i : Item = record { tag = c.in_ok-tag.tag; inside = c.in_ok-tag.inside; after = c.in_ok-tag.after } in
    let low : eqb (c.in_ok-tag.tag / 32 % 2) 1 ≡ false = ne_eqb _ 1 c.if-tag-eq1.false in
    let rest : c.inside.inside.rest.now ≡ c.in_ok-tag.inside.rest = ap (λ (p : Spot). p.rest) c.inside.view_is in
    let bad : is_allowed c.in_ok-tag.tag c.in_ok-tag.inside.rest ≡ false = ap (is_allowed c.in_ok-tag.tag) (sym rest) ∙ sym c.is_allowed.ensures ∙ c.if-not-is_allowed.true in
    rw c.refusal.ensures (leaf_err c.args.self.now i c.in_ok-tag.ensures.item.0 c.in_ok-tag.ensures.levels low bad, refl)

pub returns : goal.returns
returns t c =
    let i : Item = record { tag = c.in_ok-tag.tag; inside = c.in_ok-tag.inside; after = c.in_ok-tag.after } in
    rw c.in_ok-tag.ensures.item.1
    (elim c.if-tag-eq1.branch [
      | then-tag-eq1+else-loop-inside-test w ↦
          let at : Spot = w.loop-inside.inside in
          let none : eqb (length at.rest) 0 ≡ true = cc in
          node_ok c.args.self.now i c.in_ok-tag.ensures.item.0 c.in_ok-tag.ensures.levels (eq-eqb _ _ w.if-tag-eq1.true)
          (sym w.loop-inside.invariant.0 ∙ skip_none (whole_at None at.levels) at none)
      | else-tag-eq1+else-not-is_allowed w ↦
          let rest : w.inside.inside.rest.now ≡ c.in_ok-tag.inside.rest = ap (λ (p : Spot). p.rest) w.inside.view_is in
          let ok : is_allowed c.in_ok-tag.tag c.in_ok-tag.inside.rest ≡ true = ap (is_allowed c.in_ok-tag.tag) (sym rest) ∙ sym w.is_allowed.ensures ∙ w.if-not-is_allowed.false in
          leaf_ok c.args.self.now i c.in_ok-tag.ensures.item.0 c.in_ok-tag.ensures.levels (ne_eqb _ 1 w.if-tag-eq1.false) ok
    ])
