use Rattle.std.proofs.Common.{◌≡◌}
use Rattle.dv_x509.specs.Uses.{bits_below}
use Rattle.dv_x509.proofs.uses.first_bits.Given as goal

abbrev pub invariant-loop-i : goal.invariant-loop-i
invariant-loop-i l = l.bits ≡ bits_below l.i l.octets
