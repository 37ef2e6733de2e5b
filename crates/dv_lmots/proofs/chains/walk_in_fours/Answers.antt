use Rattle.dv_lmots.proofs.Going.{GoOn_none, GoOn_then}
use Rattle.dv_lmots.proofs.chains.walk_in_fours.Goals as goal

pub loop-init : goal.loop-init
loop-init c = (GoOn_none c.args.id.now c.args.q c.args.values.now c.args.at.now, c.requires)

pub loop-preserved : goal.loop-preserved
loop-preserved c = (
  GoOn_then c.args.id.now c.args.q c.args.values.now c.args.at.now c.loop.values c.loop.at c.walk_four.new.values c.walk_four.new.at
      c.loop.invariant.0 c.walk_four.ensures.chains,
  c.walk_four.ensures.within c.args.to.now c.loop.invariant.1 c.steps_together-count.ensures,
)
