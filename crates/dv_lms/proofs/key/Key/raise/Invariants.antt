use Rattle.std.proofs.Common.{◌≡◌, ℕ, ◌+◌, ◌*◌, ◌<◌, ◌≤◌, [], length}
use Rattle.std.specs.Prelude.{slice_index_or}
use Rattle.dv_lms.specs.Tree.{pair_hash}
use Rattle.dv_lms.proofs.key.Key.raise.Given as goal

abbrev pub invariant-loop-k : goal.invariant-loop-k
invariant-loop-k l = (length l.row ≡ 32)
    × ((j : ℕ) → 2 * l.k ≤ j → slice_index_or l.row j [] ≡ slice_index_or l.fn.row j [])
    × ((j : ℕ) → j < l.k → slice_index_or l.row j []
    ≡ pair_hash l.self.id (l.first + j) (slice_index_or l.fn.row (2 * j) []) (slice_index_or l.fn.row (2 * j + 1) []))
