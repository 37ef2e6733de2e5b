use Rattle.std.proofs.Common.{arith, ap, ◌≡◌, ◌++◌, ◌∷◌, ◌+◌, [], map, take, subst, sym, ◌∙◌, List, Bool, Vec, Global}
use Rattle.std.proofs.lemmas.List.{map_more}
use Rattle.dv_walks.proofs.FoundLemmas.{IsFound, IsFound-more, IsRowFound}
use Rattle.dv_walks.proofs.walk.find_walk.Goals as goal

pub loop-row-preserved : goal.loop-row-preserved
loop-row-preserved c =
    let items : Vec Bool Global → List Bool = λ row. row.items in
    let row : List Bool = c.row-item.result.items in
    let by_row : IsRowFound c.args.graph.now row c.args.start c.in_ok-found.found =
    subst (λ (r : List Bool). IsRowFound c.args.graph.now r c.args.start c.in_ok-found.found) c.deref.ensures.value c.in_ok-found.ensures in
    let past : List (List Bool) = map items (take c.loop-row.row-index c.args.rows.now) in
    let more : map items (take (c.loop-row.row-index + 1) c.args.rows.now) ≡ past ++ row ∷ [] =
    map_more items c.args.rows.now c.loop-row.row-index c.row-item.result (omega arith) ∙ ap (λ (v : Vec Bool Global). past ++ v.items ∷ []) (sym c.row-item.is) in
    subst (λ (rows : List (List Bool)). IsFound c.args.graph.now rows c.args.start c.lesser-best.result) (sym more)
    (IsFound-more c.args.graph.now past row c.args.start c.loop-row.best c.in_ok-found.found c.lesser-best.result c.loop-row.invariant by_row c.lesser-best.ensures)
