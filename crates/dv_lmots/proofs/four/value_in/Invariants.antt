use Rattle.std.proofs.Common.{◌≡◌, ◌*◌, length, take}
use Rattle.sha2.specs.Sha256.{digest_bytes}
use Rattle.dv_lanes.specs.Lanes.{state_lane}
use Rattle.dv_lmots.proofs.four.value_in.Given as goal

abbrev pub invariant-loop-k : goal.invariant-loop-k
invariant-loop-k l = (length l.value ≡ 32) × (take (4 * l.k) l.value ≡ digest_bytes (state_lane l.lane l.v) l.k)
