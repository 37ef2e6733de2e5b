use Rattle.std.proofs.Common.{◌≡◌, ◌++◌, take, drop}
use Rattle.dv_cert.specs.Sealed.{inserted}
use Rattle.dv_cert.specs.Slices.{octets_of}
use Rattle.dv_cert.proofs.order.place_in.Given as goal

abbrev pub invariant-loop-i : goal.invariant-loop-i
invariant-loop-i l = inserted l.octets (octets_of l.sorted) ≡ take l.i (octets_of l.sorted) ++ inserted l.octets (drop l.i (octets_of l.sorted))
