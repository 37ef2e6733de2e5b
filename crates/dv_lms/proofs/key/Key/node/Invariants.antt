use Rattle.std.proofs.Common.{◌≡◌, ℕ, ◌+◌, ◌-◌, ◌*◌, ◌^◌, ◌<◌, []}
use Rattle.std.specs.Prelude.{slice_index_or}
use Rattle.dv_lms.specs.Tree.{node}
use Rattle.dv_lms.proofs.key.Key.node.Given as goal

abbrev pub invariant-loop-above : goal.invariant-loop-above
invariant-loop-above l = (k : ℕ) → k < 2 ^ l.above → slice_index_or l.row k [] ≡ node l.self (l.depth - l.above) (l.r * 2 ^ l.above + k)
