use Rattle.std.proofs.Common.{ℕ, ◌*◌, ◌%◌, ◌^◌}
use Rattle.dv_lanes.proofs.LaneLemmas.{splat_at}
use Rattle.dv_lanes.proofs.words.shift_left.Goals as goal

pub returns : goal.returns
returns c = splat_at (λ (x n : ℕ). x * 2 ^ n % 2 ^ 32) c.args.x c.args.k c.fits-x.0
