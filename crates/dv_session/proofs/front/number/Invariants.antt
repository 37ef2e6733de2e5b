use Rattle.std.proofs.Common.{◌≡◌, ◌<◌, ◌^◌, take}
use Rattle.std.specs.Int.Digits.{number_from_digits}
use Rattle.dv_session.proofs.front.number.Given as goal

-- the number that the digits so far say, which are few
abbrev pub invariant-loop-digit : goal.invariant-loop-digit
invariant-loop-digit l = record { value : l.number ≡ number_from_digits 256 (take l.digit-index l.digits); small : l.number < 256 ^ l.digit-index }
