use Rattle.std.proofs.Common.{◌≡◌, ◌∙◌, ◌+◌, ◌∷◌, [], Bool, ℕ, List, length, true, ap}
use Rattle.std.specs.Prelude.{map, replicate}
use Rattle.std.specs.declared.alloc.Global.{Global}
use Rattle.std.specs.declared.vec.Vec.{Vec}
use Rattle.std.proofs.lemmas.List.{length-append}
use Rattle.dv_walks.specs.Graph.{GraphState}
use Rattle.dv_path.proofs.Walked.{no_walk, one_more_mark}
use Rattle.dv_path.proofs.path.reaching.Goals as goal

-- the items of a row
abbrev items_of : Vec Bool Global → List Bool
items_of row = row.items

pub loop-node-preserved : goal.loop-node-preserved
loop-node-preserved c =
    let graph : GraphState = c.args.graph.now in
    let marks : List Bool = c.loop-node.marks.items in
    let mark : Bool = c.is_some.result in
    let rows : map items_of c.deref.result.now ≡ replicate graph.size true ∷ [] = ap (map items_of) c.deref.ensures.value ∙ c.in_ok-rows.ensures ∙ ap (λ (n : ℕ). replicate n true ∷ []) c.size.ensures.value in
    let here = no_walk graph c.loop-node.node c.in_ok-walk.walk mark (map items_of c.deref.result.now) rows c.is_some.ensures c.in_ok-walk.ensures.none in
    record {
      count = ap length c.in_ok-push.ensures.items ∙ length-append marks (mark ∷ []) ∙ ap (λ (n : ℕ). n + 1) c.loop-node.invariant.count;
      ended = one_more_mark graph marks c.push.new.self.items mark c.loop-node.node c.in_ok-push.ensures.items c.loop-node.invariant.count c.loop-node.invariant.ended here;
    }
