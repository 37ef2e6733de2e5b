use Rattle.std.proofs.Common.{w32}
use Rattle.dv_lanes.proofs.ChMaj.{ch_short}
use Rattle.dv_lanes.proofs.LaneLemmas.{lane_lt}
use Rattle.dv_lanes.proofs.words.ch.Goals as goal

pub returns : goal.returns
returns c j h =
    rw (c.xor-2.ensures j h, c.and.ensures j h, c.xor.ensures j h)
    (ch_short w32 _ _ _ (lane_lt c.args.x j c.fits-x.0 c.fits-x.1 h) (lane_lt c.args.y j c.fits-y.0 c.fits-y.1 h) (lane_lt c.args.z j c.fits-z.0 c.fits-z.1 h))
