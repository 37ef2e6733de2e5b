use Rattle.std.proofs.Common.{List, ℕ, length, ◌<◌}
use Rattle.dv_walks.specs.Search.{Follows}
use Rattle.dv_walks.proofs.walk.least_by_row.Given as goal

abbrev pub invariant-loop-further : goal.invariant-loop-further
invariant-loop-further l = (rest : List ℕ) → length rest < l.further → ¬ Follows l.graph l.usable 0 l.start rest
