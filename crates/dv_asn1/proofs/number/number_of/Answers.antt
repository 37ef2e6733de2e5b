use Rattle.std.proofs.Common.{arith, ◌<◌, ◌*◌, ◌+◌, get_or, ap, ◌∙◌, sym}
use Rattle.std.proofs.lemmas.Int.Digits.{number_more}
use Rattle.dv_asn1.proofs.Bounds.{small, grows}
use Rattle.dv_asn1.proofs.number.number_of.Goals as goal

pub overflow_mul-number : goal.overflow_mul-number
overflow_mul-number c =
    let lt : c.loop-octet.octet-index < 8 = omega arith in
    let p = small c.loop-octet.octet-index c.loop-octet.number lt c.loop-octet.invariant.1 in
    omega (arith, p)

pub loop-octet-preserved : goal.loop-octet-preserved
loop-octet-preserved c =
    let e = number_more 256 c.args.octets.now c.loop-octet.octet-index c.loop-octet-test.true in
    let d : get_or c.args.octets.now c.loop-octet.octet-index 0 < 256 = omega (arith, c.type_inv.octets c.loop-octet.octet-index) in (
      ap (λ n. n * 256 + get_or c.args.octets.now c.loop-octet.octet-index 0) c.loop-octet.invariant.0 ∙ sym e,
      grows c.loop-octet.octet-index c.loop-octet.number _ c.loop-octet.invariant.1 d,
    )
