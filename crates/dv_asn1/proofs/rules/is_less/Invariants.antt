use Rattle.std.proofs.Common.{◌≡◌, drop}
use Rattle.dv_schema.specs.Octets.{is_less}
use Rattle.dv_asn1.proofs.rules.is_less.Given as goal

abbrev pub invariant-loop-i : goal.invariant-loop-i
invariant-loop-i l = is_less (drop l.i l.left) (drop l.i l.right) ≡ is_less l.left l.right
