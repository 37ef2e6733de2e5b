use Rattle.std.proofs.Common.{◌≡◌, ℕ, ◌+◌, ◌*◌, ◌^◌, ◌<◌, length, slice_index}
use Rattle.dv_lmots.proofs.chains.first_steps.Given as goal

abbrev pub invariant-loop-l : goal.invariant-loop-l
invariant-loop-l l = (length l.steps ≡ 4)
    × ((k : ℕ) → k < l.l → slice_index l.steps k ≡ slice_index l.places k * 2 ^ 16 + slice_index l.at (slice_index l.places k) * 2 ^ 8)
