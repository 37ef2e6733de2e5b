use Rattle.dv_walks.proofs.WalkLemmas.{GoesBy}
use Rattle.dv_walks.proofs.walk.lowest_walk.Given as goal

abbrev pub invariant-loop-place : goal.invariant-loop-place
invariant-loop-place l = GoesBy l.graph l.usable l.further l.start l.place l.node l.walk.items
