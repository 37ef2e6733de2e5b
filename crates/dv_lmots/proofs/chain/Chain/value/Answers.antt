use Rattle.std.proofs.Common.{arith, ◌∙◌}
use Rattle.std.proofs.lemmas.List.{take_all, length-drop}
use Rattle.dv_lmots.proofs.chain.Chain.value.Goals as goal

pub returns : goal.returns
returns c = c.copy_from_slice.ensures.after ∙ rw (← c.self.view_is) (take_all 32 _ (omega (arith, length-drop 23 c.self.inside.message)))
