use Rattle.std.proofs.Common.{◌≡◌, ℕ, [], ◌<◌, ◌≤◌, length, slice_index}
use Rattle.std.specs.Prelude.{slice_index_or}
use Rattle.dv_lmots.specs.Lmots.{chain}
use Rattle.dv_lmots.proofs.chains.walk_rest.Given as goal

abbrev pub invariant-loop-i : goal.invariant-loop-i
invariant-loop-i l = (length l.values ≡ 34)
    × ((k : ℕ) → k < l.i → slice_index_or l.values k [] ≡ chain l.id l.q k (slice_index_or l.fn.values k []) (slice_index l.at k) (slice_index l.to k))
    × ((k : ℕ) → l.i ≤ k → slice_index_or l.values k [] ≡ slice_index_or l.fn.values k [])
