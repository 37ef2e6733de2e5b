use Rattle.std.proofs.Common.{ℕ, ◌<◌}
use Rattle.std.proofs.lemmas.Option.{MatchOption-at_some}
use Rattle.dv_walks.specs.Search.{IsLeastNext, IsNext}
use Rattle.dv_walks.proofs.WalkLemmas.{GoesBy-step, finds_next, leads_on}
use Rattle.dv_walks.proofs.walk.lowest_walk.Goals as goal

pub least_next-requires : goal.least_next-requires
least_next-requires c =
    (leads_on c.args.graph.now c.args.usable.now c.args.further c.loop-place.place c.loop-place.node c.layer-onward.result c.loop-place-test.true
    c.loop-place.invariant.reaches c.layer-onward.ensures).0.inside

pub unwrap-node-requires : goal.unwrap-node-requires
unwrap-node-requires c =
    finds_next c.args.graph.now c.layer-onward.result c.loop-place.node c.least_next.result c.least_next.ensures
    (leads_on c.args.graph.now c.args.usable.now c.args.further c.loop-place.place c.loop-place.node c.layer-onward.result c.loop-place-test.true
    c.loop-place.invariant.reaches c.layer-onward.ensures).1

pub loop-place-preserved : goal.loop-place-preserved
loop-place-preserved c =
    rw c.in_ok-push-2.ensures.items
    (GoesBy-step c.args.graph.now c.args.usable.now c.args.further c.args.start c.loop-place.place c.loop-place.node c.unwrap-node.result c.loop-place.walk.items c.layer-onward.result
    c.loop-place-test.true c.loop-place.invariant c.layer-onward.ensures
    (MatchOption-at_some ((k : ℕ) → k < c.args.graph.now.size → ¬ IsNext c.args.graph.now c.layer-onward.result c.loop-place.node k)
    (IsLeastNext c.args.graph.now c.layer-onward.result c.loop-place.node) c.unwrap-node.result c.unwrap-node.ensures c.least_next.ensures))
