use Rattle.std.proofs.Common.{◌↔◌, drop}
use Rattle.dv_walks.specs.Walk.{IsLower}
use Rattle.dv_walks.proofs.order.is_lower.Given as goal

abbrev pub invariant-loop-i : goal.invariant-loop-i
invariant-loop-i l = IsLower l.a l.b ↔ IsLower (drop l.i l.a) (drop l.i l.b)
