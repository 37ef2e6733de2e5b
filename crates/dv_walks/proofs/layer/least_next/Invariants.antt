use Rattle.std.proofs.Common.{ℕ, ◌<◌}
use Rattle.dv_walks.specs.Search.{IsNext}
use Rattle.dv_walks.proofs.layer.least_next.Given as goal

abbrev pub invariant-loop-next : goal.invariant-loop-next
invariant-loop-next l = (k : ℕ) → k < l.next → ¬ IsNext l.graph l.layer l.node k
