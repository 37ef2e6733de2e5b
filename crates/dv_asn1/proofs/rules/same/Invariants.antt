use Rattle.std.proofs.Common.{◌≡◌, drop}
use Rattle.dv_schema.specs.Octets.{same_octets}
use Rattle.dv_asn1.proofs.rules.same.Given as goal

abbrev pub invariant-loop-i : goal.invariant-loop-i
invariant-loop-i l = same_octets (drop l.i l.left) (drop l.i l.right) ≡ same_octets l.left l.right
