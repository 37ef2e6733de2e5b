use Rattle.std.proofs.Common.{arith}
use Rattle.dv_lanes.proofs.Rotations.{rotated_three}
use Rattle.dv_lanes.proofs.LaneLemmas.{lane_lt}
use Rattle.dv_lanes.proofs.words.big_sigma0.Goals as goal

pub returns : goal.returns
returns c j h =
    rw (
      c.rotate-3.ensures j h,
      c.xor-2.ensures j h,
      c.rotate-2.ensures j h,
      c.xor.ensures j h,
      c.rotate.ensures j h,
    )
    (rotated_three 32 _ 2 11 9 (omega arith) (lane_lt c.args.x j c.fits-x.0 c.fits-x.1 h))
