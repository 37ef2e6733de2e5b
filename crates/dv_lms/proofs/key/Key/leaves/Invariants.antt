use Rattle.std.proofs.Common.{◌≡◌, ℕ, ◌+◌, ◌<◌, [], length}
use Rattle.std.specs.Prelude.{slice_index_or}
use Rattle.dv_lms.specs.Tree.{node}
use Rattle.dv_lms.proofs.key.Key.leaves.Given as goal

abbrev pub invariant-loop-k : goal.invariant-loop-k
invariant-loop-k l = (length l.row ≡ 32) × ((j : ℕ) → j < l.k → slice_index_or l.row j [] ≡ node l.self 0 (l.first + j))
