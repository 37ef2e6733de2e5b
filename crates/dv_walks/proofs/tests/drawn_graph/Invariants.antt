use Rattle.std.proofs.Common.{◌≡◌}
use Rattle.dv_walks.proofs.tests.drawn_graph.Given as goal

abbrev pub invariant-loop-from : goal.invariant-loop-from
invariant-loop-from l = l.graph.size ≡ 5

abbrev pub invariant-loop-to : goal.invariant-loop-to
invariant-loop-to l = l.graph.size ≡ 5
