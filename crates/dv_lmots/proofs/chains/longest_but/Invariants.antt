use Rattle.std.proofs.Common.{◌<◌}
use Rattle.dv_lmots.proofs.chains.longest_but.Given as goal

abbrev pub invariant-loop-i : goal.invariant-loop-i
invariant-loop-i l = l.longest < 34
