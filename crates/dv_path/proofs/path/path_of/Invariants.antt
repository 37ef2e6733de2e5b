use Rattle.std.proofs.Common.{◌≡◌, take}
use Rattle.dv_path.proofs.path.path_of.Given as goal

abbrev pub invariant-loop-position : goal.invariant-loop-position
invariant-loop-position l = l.positions.items ≡ take l.position-index l.walk
