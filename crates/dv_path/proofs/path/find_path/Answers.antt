use Rattle.std.proofs.Common.{◌≡◌, ◌∙◌, ◌-◌, ℕ, Bool, List, length, sym, ap, subst}
use Rattle.std.specs.Prelude.{All, IfNone, IfSome, Option, map, slice_index, vec_len}
use Rattle.std.specs.declared.alloc.Global.{Global}
use Rattle.std.specs.declared.vec.Vec.{Vec}
use Rattle.dv_schema.specs.Schema.{FieldsOf}
use Rattle.dv_walks.specs.Graph.{GraphState}
use Rattle.dv_walks.specs.Walk.{IsAllowed, IsLeastWalk, IsWalk}
use Rattle.dv_x509.specs.Types.{certificate_fields}
use Rattle.dv_path.specs.Demands.{demand_of}
use Rattle.dv_path.specs.Paths.{IsChosen, Search, search_for}
use Rattle.dv_path.specs.Rows.{rows_of}
use Rattle.dv_path.proofs.Demanded.{row_lengths}
use Rattle.dv_path.proofs.Walked.{chosen, no_path}
use Rattle.dv_path.proofs.path.find_path.Goals as goal

-- the items of a row
abbrev items_of : Vec Bool Global → List Bool
items_of row = row.items

pub find_walk-requires-clause-rows : goal.find_walk-requires-clause-rows
find_walk-requires-clause-rows g c =
    let bag : List (FieldsOf certificate_fields) = c.args.bag.now in
    let size : ℕ = c.issuing_table-table.result.graph.size in
    subst (All (λ (row : Vec Bool Global). vec_len row ≡ size)) (sym c.deref-2.ensures.value)
    (row_lengths c.deref.result.now (demand_of c.args.input) bag c.in_ok-rows.rows.items size c.in_ok-rows.ensures c.issuing_table-table.ensures.table.size)

pub returns-in-None-clause-none : goal.returns-in-None-clause-none
returns-in-None-clause-none g c =
    let s : Search = search_for c.args.bag.now c.args.target c.args.trust.now c.args.when (demand_of c.args.input) in
    let graph : GraphState = c.issuing_table-table.result.graph in
    let marks : List Bool = c.in_ok-marks.marks.items in
    let given : rows_of c.deref.result.now s.demand s.bag ≡ rows_of marks s.demand s.bag = ap (λ (ms : List Bool). rows_of ms s.demand s.bag) c.deref.ensures.value in
    let rows : map items_of c.deref-2.result.now ≡ rows_of marks s.demand s.bag = ap (map items_of) c.deref-2.ensures.value ∙ (c.in_ok-rows.ensures ∙ given) in
    let None_in : List (List Bool) → Type 0 = λ rs. (walk : List ℕ) → IsWalk graph s.target walk → ¬ IsAllowed rs walk in
    let none = subst (λ (o : Option (Vec ℕ Global)). IfNone o (None_in (map items_of c.deref-2.result.now))) c.in-None.is c.in_ok-find_walk.ensures.none in
    no_path s graph c.issuing_table-table.result.anchors marks c.issuing_table-table.ensures.table c.in_ok-marks.ensures (subst None_in rows none)

pub returns-clause-chosen : goal.returns-clause-chosen
returns-clause-chosen g c =
    let s : Search = search_for c.args.bag.now c.args.target c.args.trust.now c.args.when (demand_of c.args.input) in
    let graph : GraphState = c.issuing_table-table.result.graph in
    let firsts : List ℕ = c.issuing_table-table.result.anchors in
    let walk : List ℕ = c.in-Some.walk.items in
    let marks : List Bool = c.in_ok-marks.marks.items in
    let given : rows_of c.deref.result.now s.demand s.bag ≡ rows_of marks s.demand s.bag = ap (λ (ms : List Bool). rows_of ms s.demand s.bag) c.deref.ensures.value in
    let rows : map items_of c.deref-2.result.now ≡ rows_of marks s.demand s.bag = ap (map items_of) c.deref-2.ensures.value ∙ (c.in_ok-rows.ensures ∙ given) in
    let found = subst (λ (o : Option (Vec ℕ Global)). IfSome o (λ v. IsLeastWalk graph (map items_of c.deref-2.result.now) s.target v.items)) c.in-Some.is c.in_ok-find_walk.ensures.found in
    let least : IsLeastWalk graph (rows_of marks s.demand s.bag) s.target walk = subst (λ (rs : List (List Bool)). IsLeastWalk graph rs s.target walk) rows found in
    let is = chosen s graph firsts marks walk c.issuing_table-table.ensures.table c.in_ok-marks.ensures least in
    let place : List ℕ → ℕ = λ w. slice_index firsts (slice_index w (length w - 1)) in
    let same : c.deref-in-Some.result.now ≡ walk = c.deref-in-Some.ensures.value in
    let positions : c.in_ok-path_of-in-Some.field-0.positions ≡ walk = c.in_ok-path_of-in-Some.ensures.positions ∙ same in
    let anchor : c.in_ok-path_of-in-Some.field-0.anchor ≡ place walk = c.in_ok-path_of-in-Some.ensures.anchor ∙ ap place same in
    subst (λ (n : ℕ). IsChosen s c.in_ok-path_of-in-Some.field-0.positions n) (sym anchor) (subst (λ (w : List ℕ). IsChosen s w (place walk)) (sym positions) is)
