use Rattle.std.proofs.Common.{ℕ, sym, ap, ◌∙◌, refl, true}
use Rattle.std.proofs.lemmas.Result.{err_from_is_err_and}
use Rattle.dv_schema.specs.Schema.{set_of}
use Rattle.dv_schema.specs.Reading.{Item, item_at, is_tag_of, read_fields}
use Rattle.dv_schema.specs.Answers.{skipped}
use Rattle.dv_schema.proofs.Nodes.{node_passes, node_fault}
use Rattle.dv_names.specs.Types.{named_value}
use Rattle.dv_names.proofs.name.NamePartMember.pass.Goals as goal

pub returns-in_err-check_set : goal.returns-in_err-check_set
returns-in_err-check_set c =
    let e = err_from_is_err_and c.from_residual-in_err-check_set.result c.from_residual-in_err-check_set.ensures.1 in
    let i : Item = record { tag = 49; inside = c.in_ok-inside.inside; after = c.enter.new.self } in
    let item = ap (item_at (is_tag_of 49)) (sym c.fork-next.ensures.same) ∙ c.in_ok-inside.ensures.item in
    let inside = ap (λ (k : ℕ). skipped (read_fields (set_of true named_value) k i.inside)) (sym c.place.ensures) ∙ c.in_err-check_set.ensures in
    rw (e.1, e.2) (node_fault 49 (set_of true named_value) c.args.c.now i c.in_err-check_set.field-0.0 item inside, refl)

pub returns : goal.returns
returns c =
    let i : Item = record { tag = 49; inside = c.in_ok-inside.inside; after = c.enter.new.self } in
    let item = ap (item_at (is_tag_of 49)) (sym c.fork-next.ensures.same) ∙ c.in_ok-inside.ensures.item in
    let inside = ap (λ (k : ℕ). skipped (read_fields (set_of true named_value) k i.inside)) (sym c.place.ensures) ∙ c.in_ok-check_set.ensures in
    node_passes 49 (set_of true named_value) c.args.c.now i item inside
