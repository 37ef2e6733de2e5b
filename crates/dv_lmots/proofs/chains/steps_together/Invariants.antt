use Rattle.std.proofs.Common.{ℕ, ◌+◌, ◌<◌, ◌≤◌, slice_index}
use Rattle.dv_lmots.proofs.chains.steps_together.Given as goal

abbrev pub invariant-loop-l : goal.invariant-loop-l
invariant-loop-l l = (k : ℕ) → k < l.l → slice_index l.at (slice_index l.places k) + l.count ≤ slice_index l.to (slice_index l.places k)
