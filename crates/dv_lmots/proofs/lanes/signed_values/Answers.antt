use Rattle.std.proofs.Common.{◌∙◌, arith}
use Rattle.std.proofs.lemmas.List.{length-set}
use Rattle.dv_lmots.specs.Lmots.{value_in}
use Rattle.dv_lmots.proofs.Going.{written_more}
use Rattle.dv_lmots.proofs.lanes.signed_values.Goals as goal

pub loop-i-preserved : goal.loop-i-preserved
loop-i-preserved c = (
  length-set c.loop-i.values c.loop-i.i c.hash_at.result ∙ c.loop-i.invariant.0,
  written_more (value_in c.args.signature.now) c.loop-i.values c.loop-i.i c.hash_at.result (omega arith) c.loop-i.invariant.1 c.hash_at.ensures,
)
