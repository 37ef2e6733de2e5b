use Rattle.dv_lmots.specs.Walk.{AreWithin, GoOn}
use Rattle.dv_lmots.proofs.chains.walk_in_fours.Given as goal

abbrev pub invariant-loop : goal.invariant-loop
invariant-loop l = GoOn l.id l.q l.fn.values l.fn.at l.values l.at × AreWithin l.at l.to
