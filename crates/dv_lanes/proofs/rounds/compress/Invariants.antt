use Rattle.std.proofs.Common.{◌≡◌, ℕ, ◌<◌, ◌*◌, List}
use Rattle.sha2.specs.Sha256.{IsRoundsAt, word_at}
use Rattle.dv_lanes.specs.Lanes.{lane_at, state_lane, window_lane}
use Rattle.dv_lanes.proofs.rounds.compress.Given as goal

abbrev pub invariant-schedule : goal.invariant-schedule
invariant-schedule l = (j : ℕ) (b : List ℕ) → j < 4 → ((k : ℕ) → k < 16 → lane_at l.fn.words k j ≡ word_at b (4 * k))
    → IsRoundsAt b (state_lane j l.state) (window_lane j l.w) (state_lane j l.v) (16 * l.turn)
