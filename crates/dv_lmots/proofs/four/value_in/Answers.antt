use Rattle.std.proofs.Common.{rules, ◌≡◌, arith, ap, sym, ◌∙◌}
use Rattle.std.specs.Int.{w32, to_be_bytes}
use Rattle.std.proofs.lemmas.List.{take_all}
use Rattle.std.proofs.lemmas.Slice.{overwrites}
use Rattle.sha2.specs.Sha256.{digest_bytes}
use Rattle.sha2.proofs.Absorbing256.{digest_more}
use Rattle.dv_lanes.specs.Lanes.{state_lane}
use Rattle.dv_lmots.proofs.Blocks.{slice_index-state_lane}
use Rattle.dv_lmots.proofs.four.value_in.Goals as goal

pub loop-k-init : goal.loop-k-init
unfolding digest_bytes
loop-k-init c = search rules

pub loop-k-preserved : goal.loop-k-preserved
loop-k-preserved c = (
  search (rules, overwrites),
  digest_more c.loop-k.value (state_lane c.args.lane c.args.v.now) _ c.loop-k.k _ c.loop-k.invariant.1 (omega arith)
      (c.copy_from_slice.ensures.after ∙ c.to_be_bytes.ensures ∙ ap (to_be_bytes w32) (sym (slice_index-state_lane c.args.lane c.args.v.now c.loop-k.k (omega arith)))),
)

pub returns : goal.returns
returns c =
    let done : c.loop-k.k ≡ 8 = omega arith in
    sym (take_all 32 c.loop-k.value (omega arith)) ∙ rw done at c.loop-k.invariant.1
