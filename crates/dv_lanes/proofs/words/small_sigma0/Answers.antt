use Rattle.std.proofs.Common.{ℕ, ◌/◌, ◌^◌, bit_xor, slice_index, ap, arith}
use Rattle.dv_lanes.proofs.Rotations.{rotated_two}
use Rattle.dv_lanes.proofs.LaneLemmas.{lane_lt}
use Rattle.dv_lanes.proofs.words.small_sigma0.Goals as goal

pub returns : goal.returns
returns c j h =
    rw (
      c.xor-2.ensures j h,
      c.shift_right.ensures j h,
      c.rotate-2.ensures j h,
      c.xor.ensures j h,
      c.rotate.ensures j h,
    )
    (ap (λ (y : ℕ). bit_xor y (slice_index c.args.x j / 2 ^ 3))
    (rotated_two 32 _ 7 11 (omega arith) (lane_lt c.args.x j c.fits-x.0 c.fits-x.1 h)))
