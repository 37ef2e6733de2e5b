use Rattle.std.proofs.Common.{◌≡◌}
use Rattle.dv_walks.proofs.tests.graph_of.Given as goal

abbrev pub invariant-loop-from : goal.invariant-loop-from
invariant-loop-from l = l.graph.size ≡ l.size

abbrev pub invariant-loop-end : goal.invariant-loop-end
invariant-loop-end l = l.graph.size ≡ l.size

abbrev pub invariant-loop-node : goal.invariant-loop-node
invariant-loop-node l = l.graph.size ≡ l.size
