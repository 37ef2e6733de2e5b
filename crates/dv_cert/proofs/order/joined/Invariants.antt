use Rattle.std.proofs.Common.{◌≡◌, take}
use Rattle.std.specs.List.{concat}
use Rattle.dv_cert.specs.Slices.{octets_of}
use Rattle.dv_cert.proofs.order.joined.Given as goal

abbrev pub invariant-loop-part : goal.invariant-loop-part
invariant-loop-part l = l.octets.items ≡ concat (take l.part-index (octets_of l.parts))
