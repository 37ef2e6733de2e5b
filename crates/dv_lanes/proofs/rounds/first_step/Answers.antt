use Rattle.std.proofs.Common.{refl, sym, arith}
use Rattle.dv_lanes.specs.Lanes.{state_lane, window_lane}
use Rattle.sha2.proofs.Schedule256.{rounds_first}
use Rattle.dv_lanes.proofs.LaneLemmas.{slice_index-window_lane, length-window_lane}
use Rattle.dv_lanes.proofs.rounds.first_step.Goals as goal

pub returns : goal.returns
returns c j b h lt window held =
    let long = length-window_lane c.args.w.now j in
    rounds_first b h (window_lane j c.args.w.now) (state_lane j c.args.v) c.args.t _ _ _ c.requires window held refl
    (sym (slice_index-window_lane c.args.w.now c.args.t j (omega (arith, long, window.0)))) (c.round.ensures j lt)
