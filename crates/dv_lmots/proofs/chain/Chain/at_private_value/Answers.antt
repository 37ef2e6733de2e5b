use Rattle.std.proofs.Common.{refl}
use Rattle.dv_lmots.specs.Lmots.{chain_step, private_value}
use Rattle.dv_lmots.proofs.chain.Chain.at_private_value.Goals as goal

pub returns : goal.returns
unfolding chain_step private_value
returns c = rw (c.step.ensures, c.new-chain.ensures) refl
