use Rattle.std.proofs.Common.{◌≡◌, ℕ, [], ◌∷◌, ◌*◌, ◌<◌, length}
use Rattle.std.specs.Prelude.{slice_index_or}
use Rattle.sha2.specs.Sha256.{word_at}
use Rattle.dv_lanes.specs.Lanes.{lane_at}
use Rattle.dv_lmots.proofs.four.gather.Given as goal

-- the words of the values that were taken so far
abbrev pub invariant-loop-k : goal.invariant-loop-k
invariant-loop-k l = (length l.v ≡ 8)
    × ((j lane : ℕ) → j < l.k → lane < 4 → lane_at l.v j lane ≡ word_at (slice_index_or (l.a ∷ l.b ∷ l.c ∷ l.d ∷ []) lane []) (4 * j))
