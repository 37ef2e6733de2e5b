use Rattle.dv_walks.proofs.LayerLemmas.{layer_step}
use Rattle.dv_walks.proofs.layer.layer.Goals as goal

pub loop-back-preserved : goal.loop-back-preserved
loop-back-preserved c = layer_step c.args.graph.now c.args.usable.now c.args.place c.args.further c.loop-back.back c.loop-back.layer c.layer_before-layer.result
    c.loop-back-test.true c.loop-back.invariant c.layer_before-layer.ensures
