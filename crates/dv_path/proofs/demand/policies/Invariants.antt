use Rattle.std.proofs.Common.{length}
use Rattle.dv_path.specs.Rows.{octets_of}
use Rattle.dv_path.proofs.PolicyLists.{AreNames}
use Rattle.dv_path.proofs.demand.policies.Given as goal

abbrev pub invariant-loop-next : goal.invariant-loop-next
invariant-loop-next l = AreNames l.octets (octets_of l.policies.items) l.next

abbrev pub decreases-loop-next : goal.decreases-loop-next
decreases-loop-next l = length l.next.rest
