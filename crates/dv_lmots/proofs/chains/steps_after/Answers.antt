use Rattle.std.proofs.Common.{◌+◌, ◌∙◌, slice_index, arith}
use Rattle.std.proofs.lemmas.List.{length-set}
use Rattle.std.proofs.lemmas.List.Edits.{fill_by_more}
use Rattle.dv_lmots.proofs.chains.steps_after.Goals as goal

pub loop-l-preserved : goal.loop-l-preserved
loop-l-preserved c = (
  length-set c.loop-l.next c.loop-l.l _ ∙ c.loop-l.invariant.0,
  fill_by_more (λ k. slice_index c.args.at.now (slice_index c.args.places.now k) + c.args.count)
      c.loop-l.next c.loop-l.l 0 (omega arith) c.loop-l.invariant.1,
)
