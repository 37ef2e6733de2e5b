use Rattle.std.proofs.Common.{ℕ, true, ap, sym, ◌∙◌, refl}
use Rattle.std.proofs.lemmas.Result.{err_from_is_err_and}
use Rattle.dv_schema.specs.Schema.{Schema, sequence_of}
use Rattle.dv_schema.specs.Reading.{Spot, item_at, is_tag_of, read_fields}
use Rattle.dv_schema.specs.Answers.{counted}
use Rattle.dv_schema.proofs.Nodes.{constructed_missing}
use Rattle.dv_members.proofs.MemberLemmas.{counted_fault, counted_list}
use Rattle.dv_members.proofs.members.read_counted.Goals as goal

pub returns-in_err-inside : goal.returns-in_err-inside
returns-in_err-inside g c =
    let p = err_from_is_err_and c.from_residual.result c.from_residual.ensures.1 in
    let missing = ap (item_at (is_tag_of c.args.tag)) (sym c.fork-next.ensures.same) ∙ c.in_err-inside.ensures.item.0 in
    let bad = constructed_missing c.args.tag (sequence_of c.args.some g.T.Member.schema) c.args.c.now c.in_err-inside.field-0.0 missing in
    rw (p.1, p.2) (record { list = (bad, refl); count = tt; few = tt })

pub returns-in_err-count : goal.returns-in_err-count
returns-in_err-count g c =
    let p = err_from_is_err_and c.from_residual-in_err-count.result c.from_residual-in_err-count.ensures.1 in
    let s : Schema = g.T.Member.schema in
    let inside : Spot = c.in_ok-inside.inside in
    let item = ap (item_at (is_tag_of c.args.tag)) (sym c.fork-next.ensures.same) ∙ c.in_ok-inside.ensures.item in
    let count = ap (λ (k : ℕ). counted 0 (read_fields (sequence_of c.args.some s) k inside)) (sym c.place.ensures) ∙ c.in_err-count.ensures in
    let bad = counted_fault s c.args.some c.args.tag c.args.c.now inside c.enter.new.self c.in_err-count.field-0.0 c.requires.constructed item count in
    rw (p.1, p.2) (record { list = (bad, refl); count = tt; few = tt })

pub returns : goal.returns
returns g c =
    let s : Schema = g.T.Member.schema in
    let inside : Spot = c.in_ok-inside.inside in
    let f = c.fork-next.ensures in
    let item = ap (item_at (is_tag_of c.args.tag)) (sym f.same) ∙ c.in_ok-inside.ensures.item in
    let count = ap (λ (k : ℕ). counted 0 (read_fields (sequence_of c.args.some s) k inside)) (sym c.place.ensures) ∙ c.in_ok-count.ensures in
    let all = counted_list s c.args.some c.args.tag c.in_ok-count.count c.args.c.now inside c.enter.new.self c.requires.clear c.requires.constructed f.octets f.levels item count in
    rw c.rest.ensures (record { list = all.list; count = all.count; few = all.few })
