use Rattle.std.proofs.Common.{◌∙◌, arith, ap}
use Rattle.std.proofs.lemmas.List.{length-set}
use Rattle.dv_lmots.specs.Lmots.{private_value}
use Rattle.dv_lmots.specs.Walk.{Walk}
use Rattle.dv_lmots.proofs.Going.{written_more}
use Rattle.dv_lmots.proofs.lanes.private_values.Goals as goal

pub loop-i-preserved : goal.loop-i-preserved
loop-i-preserved c = (
  length-set c.loop-i.values c.loop-i.i c.value.result ∙ c.loop-i.invariant.0,
  written_more (private_value c.args.id.now c.args.seed.now c.args.q) c.loop-i.values c.loop-i.i c.value.result (omega arith) c.loop-i.invariant.1
      (c.value.ensures ∙ ap (λ (w : Walk). w.value) c.at_private_value.ensures),
)
