use Rattle.std.proofs.Common.{◌≡◌, ◌<◌, ℕ, List, false, get_or, length}
use Rattle.dv_walks.specs.Walk.{IsWalk}
use Rattle.dv_path.proofs.path.reaching.Given as goal

abbrev pub invariant-loop-node : goal.invariant-loop-node
invariant-loop-node l =
    record {
      count : length l.marks.items ≡ l.node;
      ended : (node : ℕ) → node < l.node → get_or l.marks.items node false ≡ false → (walk : List ℕ) → ¬ IsWalk l.graph node walk;
    }
