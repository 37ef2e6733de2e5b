use Rattle.std.proofs.Common.{◌≡◌, ◌%◌, ◌+◌, length, arith, refl, rules}
use Rattle.dv_lanes.proofs.LaneLemmas.{slice_index-window_lane}
use Rattle.dv_lanes.proofs.rounds.next_word.Goals as goal

pub returns-clause-value : goal.returns-clause-value
returns-clause-value c j h =
    let w = c.args.w.now in
    let p = c.args.place in
    let long : length w ≡ 16 = search rules in
    let at : p % 16 ≡ p = omega arith in
    rw (
      at,
      slice_index-window_lane w ((p + 14) % 16) j (omega arith),
      slice_index-window_lane w ((p + 9) % 16) j (omega arith),
      slice_index-window_lane w ((p + 1) % 16) j (omega arith),
      slice_index-window_lane w p j (omega arith),
      c.add-word.ensures j h,
      c.add-2.ensures j h,
      c.add.ensures j h,
      c.small_sigma1-near.ensures j h,
      c.small_sigma0-far.ensures j h,
    ) refl
