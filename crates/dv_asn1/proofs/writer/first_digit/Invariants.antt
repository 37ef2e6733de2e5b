use Rattle.std.proofs.Common.{◌≡◌, ◌<◌, get_or}
use Rattle.std.specs.Int.Digits.{digits_of}
use Rattle.dv_asn1.proofs.writer.first_digit.Given as goal

abbrev pub invariant-loop-rest : goal.invariant-loop-rest
invariant-loop-rest l = (0 < l.rest) × (get_or (digits_of 256 l.rest) 0 0 ≡ get_or (digits_of 256 l.number) 0 0)

abbrev pub decreases-loop-rest : goal.decreases-loop-rest
decreases-loop-rest l = l.rest
