use Rattle.std.proofs.Common.{arith, ◌<◌, ◌≤◌, ◌*◌, ◌+◌, ◌^◌, get_or, length, ap, ◌∙◌, sym}
use Rattle.std.proofs.lemmas.Int.Digits.{number_more}
use Rattle.std.proofs.Math.Nat.{pow-le-pow_right}
use Rattle.dv_session.proofs.Lengths.{grows}
use Rattle.dv_session.proofs.front.number.Goals as goal

pub overflow_mul-number : goal.overflow_mul-number
overflow_mul-number c =
    let upto : c.loop-digit.digit-index ≤ 2 = omega arith in
    let bound : 256 ^ c.loop-digit.digit-index ≤ 256 ^ 2 = pow-le-pow_right {n = 256} (omega arith) {i = c.loop-digit.digit-index} {j = 2} upto in
    omega (arith, bound, c.loop-digit.invariant.small)

pub loop-digit-preserved : goal.loop-digit-preserved
loop-digit-preserved c =
    let more = number_more 256 c.args.digits.now c.loop-digit.digit-index c.loop-digit-test.true in
    let digit : get_or c.args.digits.now c.loop-digit.digit-index 0 < 256 = omega (arith, c.type_inv.digits c.loop-digit.digit-index) in
    record {
      value = ap (λ n. n * 256 + get_or c.args.digits.now c.loop-digit.digit-index 0) c.loop-digit.invariant.value ∙ sym more;
      small = grows c.loop-digit.digit-index c.loop-digit.number _ c.loop-digit.invariant.small digit;
    }

pub returns-clause-small : goal.returns-clause-small
returns-clause-small c =
    let upto : length c.args.digits.now ≤ 3 = c.requires in
    let bound : 256 ^ c.loop-digit.digit-index ≤ 256 ^ 3 = pow-le-pow_right {n = 256} (omega arith) {i = c.loop-digit.digit-index} {j = 3} (omega arith) in
    omega (arith, bound, c.loop-digit.invariant.small)
