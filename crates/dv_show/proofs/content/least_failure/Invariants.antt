use Rattle.dv_show.proofs.FailLemmas.{NoneBelow}
use Rattle.dv_show.proofs.content.least_failure.Given as goal

abbrev pub invariant-loop-bit : goal.invariant-loop-bit
invariant-loop-bit l = NoneBelow l.fail l.bit
