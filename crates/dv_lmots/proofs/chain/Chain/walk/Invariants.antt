use Rattle.std.proofs.Common.{◌≡◌, ◌-◌}
use Rattle.dv_lmots.specs.Lmots.{chain_steps}
use Rattle.dv_lmots.proofs.chain.Chain.walk.Given as goal

abbrev pub invariant-loop-j : goal.invariant-loop-j
invariant-loop-j l = l.self ≡ record l.fn.self { value = chain_steps l.fn.self.prefix l.fn.self.value l.from (l.j - l.from) }
