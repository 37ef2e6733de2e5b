use Rattle.std.proofs.Common.{ℕ, ap, sym, ◌∙◌, refl}
use Rattle.std.proofs.lemmas.Result.{err_from_is_err_and}
use Rattle.dv_schema.specs.Schema.{Body}
use Rattle.dv_schema.specs.Reading.{Spot, item_at, is_tag_of, read_fields}
use Rattle.dv_schema.specs.Answers.{skipped}
use Rattle.dv_schema.proofs.Nodes.{constructed_value, constructed_fault, constructed_missing}
use Rattle.dv_names.specs.Types.{extensions}
use Rattle.dv_names.proofs.extensions.read_extensions.Goals as goal

pub returns-in_err-inside : goal.returns-in_err-inside
returns-in_err-inside g c =
    let p = err_from_is_err_and c.from_residual.result c.from_residual.ensures.1 in
    let missing = ap (item_at (is_tag_of c.args.tag)) (sym c.fork-next.ensures.same) ∙ c.in_err-inside.ensures.item.0 in
    rw (p.1, p.2) (constructed_missing c.args.tag (extensions g.K.Known.known) c.args.c.now c.in_err-inside.field-0.0 missing, refl)

pub returns-in_err-check_extensions : goal.returns-in_err-check_extensions
returns-in_err-check_extensions g c =
    let p = err_from_is_err_and c.from_residual-in_err-check_extensions.result c.from_residual-in_err-check_extensions.ensures.1 in
    let b : Body = extensions g.K.Known.known in
    let inside : Spot = c.in_ok-inside.inside in
    let item = ap (item_at (is_tag_of c.args.tag)) (sym c.fork-next.ensures.same) ∙ c.in_ok-inside.ensures.item in
    let bad = ap (λ (k : ℕ). skipped (read_fields b k inside)) (sym c.place.ensures) ∙ c.in_err-check_extensions.ensures in
    rw (p.1, p.2) (constructed_fault c.args.tag b c.args.c.now inside c.enter.new.self c.in_err-check_extensions.field-0.0 c.requires item bad, refl)

pub returns : goal.returns
returns g c =
    let b : Body = extensions g.K.Known.known in
    let inside : Spot = c.in_ok-inside.inside in
    let item = ap (item_at (is_tag_of c.args.tag)) (sym c.fork-next.ensures.same) ∙ c.in_ok-inside.ensures.item in
    let ok = ap (λ (k : ℕ). skipped (read_fields b k inside)) (sym c.place.ensures) ∙ c.in_ok-check_extensions.ensures in
    rw c.rest.ensures (constructed_value c.args.tag b c.args.c.now inside c.enter.new.self c.requires item ok)
