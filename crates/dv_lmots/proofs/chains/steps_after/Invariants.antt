use Rattle.std.proofs.Common.{◌≡◌, ℕ, ◌+◌, ◌<◌, length, slice_index}
use Rattle.dv_lmots.proofs.chains.steps_after.Given as goal

abbrev pub invariant-loop-l : goal.invariant-loop-l
invariant-loop-l l = (length l.next ≡ 4) × ((k : ℕ) → k < l.l → slice_index l.next k ≡ slice_index l.at (slice_index l.places k) + l.count)
