use Rattle.std.proofs.Common.{map, take}
use Rattle.dv_walks.proofs.FoundLemmas.{IsFound}
use Rattle.dv_walks.proofs.walk.find_walk.Given as goal

abbrev pub invariant-loop-row : goal.invariant-loop-row
invariant-loop-row l = IsFound l.graph (map (λ row. row.items) (take l.row-index l.rows)) l.start l.best
