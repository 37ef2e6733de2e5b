use Rattle.std.proofs.Common.{arith}
use Rattle.dv_walks.proofs.FollowLemmas.{IsLeastRowWalk-of, no_walk}
use Rattle.dv_walks.proofs.walk.least_by_row.Goals as goal

pub returns-then-layer-start : goal.returns-then-layer-start
returns-then-layer-start c =
    IsLeastRowWalk-of c.args.graph.now c.args.usable.now c.loop-further.further c.args.start c.in_ok-lowest_walk.field-0.items (omega arith) c.loop-further.invariant c.in_ok-lowest_walk.ensures

pub returns : goal.returns
returns c = no_walk c.args.graph.now c.args.usable.now c.args.start (λ rest short. c.loop-further.invariant rest (omega arith))
