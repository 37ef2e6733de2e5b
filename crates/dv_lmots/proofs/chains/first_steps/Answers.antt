use Rattle.std.proofs.Common.{◌+◌, ◌*◌, ◌^◌, ◌∙◌, slice_index, arith}
use Rattle.std.proofs.lemmas.List.{length-set}
use Rattle.std.proofs.lemmas.List.Edits.{fill_by_more}
use Rattle.dv_lmots.proofs.chains.first_steps.Goals as goal

pub loop-l-preserved : goal.loop-l-preserved
loop-l-preserved c = (
  length-set c.loop-l.steps c.loop-l.l _ ∙ c.loop-l.invariant.0,
  fill_by_more (λ k. slice_index c.args.places.now k * 2 ^ 16 + slice_index c.args.at.now (slice_index c.args.places.now k) * 2 ^ 8)
      c.loop-l.steps c.loop-l.l 0 (omega arith) c.loop-l.invariant.1,
)
