use Rattle.std.proofs.Common.{ℕ, ◌-◌, ◌<◌, ◌^◌, ◌≢◌}
use Rattle.dv_draft.proofs.status_reading.bit_of.Given as goal

abbrev pub invariant-loop-bit : goal.invariant-loop-bit
invariant-loop-bit l = (b : ℕ) → b < l.bit → l.fail ≢ 2 ^ (31 - b)
