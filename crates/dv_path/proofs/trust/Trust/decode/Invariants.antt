use Rattle.std.proofs.Common.{◌-◌}
use Rattle.dv_path.proofs.Reading.{AreAnchors}
use Rattle.dv_path.proofs.trust.Trust.decode.Given as goal

abbrev pub invariant-loop-next : goal.invariant-loop-next
invariant-loop-next l = AreAnchors l.bytes l.anchors.items l.next

abbrev pub decreases-loop-next : goal.decreases-loop-next
decreases-loop-next l = 16 - l.anchors.len
