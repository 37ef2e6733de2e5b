use Rattle.std.proofs.Common.{◌≡◌, ℕ, ◌+◌, ◌*◌, ◌^◌, ◌<◌, slice_index}
use Rattle.sha2.specs.Sha256.{digest_bytes}
use Rattle.dv_lanes.specs.Lanes.{state_lane}
use Rattle.dv_lmots.specs.Lmots.{chain_prefix, chain_steps}
use Rattle.dv_lmots.proofs.four.walk.Given as goal

abbrev pub invariant-loop-n : goal.invariant-loop-n
invariant-loop-n l = (k i j : ℕ) → k < 4 → i < 2 ^ 16 → j + l.count < 256 → slice_index l.first k ≡ i * 2 ^ 16 + j * 2 ^ 8
    → digest_bytes (state_lane k l.v) 8 ≡ chain_steps (chain_prefix l.id l.q i) (digest_bytes (state_lane k l.fn.start) 8) j l.n
