use Rattle.std.proofs.Common.{arith}
use Rattle.dv_schema.specs.Tlv.{integer_octets}
use Rattle.dv_x509.proofs.OwnLemmas.{small_size, tbs_size}
use Rattle.dv_x509.proofs.own.contents_len.Goals as goal

pub returns : goal.returns
returns c =
    let p = c.args.parts.now in
    let s = small_size 2 c.number_len.result (integer_octets c.args.serial) c.number_len.ensures.count (omega (arith, c.number_len.ensures.few)) in
    record {
      octets = λ key id k i. (let t = tbs_size p.name.now p.from p.until key id c.args.serial k i in omega (arith, t, s, c.validity_len-validity.ensures.octets, c.name_len-names.ensures.octets));
      few = omega (arith, c.name_len-names.ensures.few, c.number_len.ensures.few, c.validity_len-validity.ensures.few);
    }
