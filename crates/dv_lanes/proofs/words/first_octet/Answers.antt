use Rattle.std.proofs.Common.{◌≡◌, ◌%◌, ◌/◌, ◌^◌, ℕ, ◌∙◌, slice_index, arith}
use Rattle.dv_lanes.proofs.LaneLemmas.{splat_at, lane_lt}
use Rattle.dv_lanes.proofs.words.first_octet.Goals as goal

pub returns : goal.returns
returns c j h =
    let fits = lane_lt c.args.x j c.fits-x.0 c.fits-x.1 h in
    let octet : slice_index c.args.x j / 2 ^ 24 ≡ slice_index c.args.x j / 2 ^ 24 % 256 = omega arith in
    splat_at (λ (x n : ℕ). x / 2 ^ n) c.args.x 24 c.fits-x.0 j h ∙ octet
