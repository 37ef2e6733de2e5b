use Rattle.std.proofs.Common.{arith}
use Rattle.dv_draft.proofs.Statuses.{none_alone}
use Rattle.dv_draft.proofs.status_reading.bit_of.Goals as goal

pub returns : goal.returns
returns c = none_alone 27 c.args.fail (λ b lt. c.loop-bit.invariant b (omega (arith, c.loop-bit-test.false)))
