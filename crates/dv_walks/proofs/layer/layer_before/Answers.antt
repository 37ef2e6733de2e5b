use Rattle.std.proofs.Common.{arith, IsTrue, ◌↔◌, Bool, length-set}
use Rattle.dv_walks.specs.Search.{LeadsInto, Stands}
use Rattle.dv_walks.proofs.LayerLemmas.{both_else, both_then, entries_more, some_test}
use Rattle.dv_walks.proofs.layer.layer_before.Goals as goal
use Rattle.dv_walks.proofs.layer.layer_before.Goals.{then-may_stand, else-may_stand}

pub loop-node-preserved : goal.loop-node-preserved
loop-node-preserved c =
    let here : IsTrue c.if-may_stand.layer ↔ (Stands c.args.graph.now c.args.usable.now c.args.place c.loop-node.node × LeadsInto c.args.graph.now c.args.next.now c.loop-node.node) =
    elim c.if-may_stand.branch [
      | then-may_stand w ↦ both_then _ _ _ _ _ w.layer-is w.if-may_stand.true c.may_stand.ensures
          (some_test c.args.graph.now c.args.next.now c.loop-node.node w.least_next.result w.is_some.result w.is_some.ensures w.least_next.ensures)
      | else-may_stand w ↦ both_else _ _ _ _ w.layer-is w.if-may_stand.false c.may_stand.ensures
    ]
    in (
      omega (arith, length-set {A = Bool}),
      entries_more (λ k. Stands c.args.graph.now c.args.usable.now c.args.place k × LeadsInto c.args.graph.now c.args.next.now k) c.loop-node.layer c.loop-node.node
          c.if-may_stand.layer (omega arith) c.loop-node.invariant.1 here,
    )
