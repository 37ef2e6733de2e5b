use Rattle.std.proofs.Common.{arith, IsTrue, ◌↔◌, Bool, length-set}
use Rattle.dv_walks.specs.Graph.{ends_at}
use Rattle.dv_walks.specs.Search.{Reaches, Stands}
use Rattle.dv_walks.proofs.LayerLemmas.{both_else, both_then, entries_more, iff_same, last_entry}
use Rattle.dv_walks.proofs.layer.last_layer.Goals as goal
use Rattle.dv_walks.proofs.layer.last_layer.Goals.{then-may_stand, else-may_stand}

pub loop-node-preserved : goal.loop-node-preserved
loop-node-preserved c =
    let here : IsTrue c.if-may_stand.layer ↔ (Stands c.args.graph.now c.args.usable.now c.args.place c.loop-node.node × IsTrue (ends_at c.args.graph.now c.loop-node.node)) =
    elim c.if-may_stand.branch [
      | then-may_stand w ↦ both_then _ _ _ _ _ w.layer-is w.if-may_stand.true c.may_stand.ensures (iff_same _ _ w.ends_at.ensures)
      | else-may_stand w ↦ both_else _ _ _ _ w.layer-is w.if-may_stand.false c.may_stand.ensures
    ]
    in (
      omega (arith, length-set {A = Bool}),
      entries_more (Reaches c.args.graph.now c.args.usable.now 0 c.args.place) c.loop-node.layer c.loop-node.node c.if-may_stand.layer (omega arith) c.loop-node.invariant.1
          (last_entry c.args.graph.now c.args.usable.now c.args.place c.loop-node.node c.if-may_stand.layer here),
    )
