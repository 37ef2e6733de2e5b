use Rattle.std.proofs.Common.{arith}
use Rattle.dv_asn1.proofs.Digits.{length-digits_step, length-digits_le}
use Rattle.dv_asn1.proofs.writer.digit_count.Goals as goal

pub overflow_add-count : goal.overflow_add-count
overflow_add-count c =
    let a = length-digits_step c.loop-rest.rest c.loop-rest-test.true in
    let b = length-digits_le c.args.number c.ranges.number.fits in
    omega (arith, a, b, c.loop-rest.invariant)

pub loop-rest-preserved : goal.loop-rest-preserved
loop-rest-preserved c =
    let a = length-digits_step c.loop-rest.rest c.loop-rest-test.true in
    omega (arith, a, c.loop-rest.invariant)

pub returns-clause-few : goal.returns-clause-few
returns-clause-few c =
    let b = length-digits_le c.args.number c.ranges.number.fits in
    omega (arith, b, c.loop-rest.invariant)
