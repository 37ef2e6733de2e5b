use Rattle.std.proofs.Common.{arith}
use Rattle.dv_lmots.proofs.ChainSteps.{chain_steps_next, chain_steps_none}
use Rattle.dv_lmots.proofs.chain.Chain.walk.Goals as goal

pub loop-j-init : goal.loop-j-init
loop-j-init c = λ i. record c.args.self.now { value = chain_steps_none c.args.self.now.prefix c.args.self.now.value c.args.from i }

pub loop-j-preserved : goal.loop-j-preserved
loop-j-preserved c = rw (c.step.ensures, c.loop-j.invariant) (λ i. record c.args.self.now { value = chain_steps_next c.args.self.now.prefix c.args.self.now.value c.args.from c.loop-j.j (omega arith) i })
