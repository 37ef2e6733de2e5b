use Rattle.std.proofs.Common.{◌≡◌, ◌++◌, ◌∷◌, [], ℕ, List, length, arith, subst, sym}
use Rattle.dv_schema.specs.Tlv.{tlv}
use Rattle.dv_schema.specs.Schema.{spelling}
use Rattle.dv_asn1.specs.Writing.{Writes}
use Rattle.dv_asn1.proofs.Written.{written_more}
use Rattle.dv_names.specs.Types.{algorithm_identifier}
use Rattle.dv_x509.specs.Own.{own_algorithm}
use Rattle.dv_x509.proofs.OwnLemmas.{boxed, inner_size, key_is}
use Rattle.dv_x509.proofs.own.write_key.Goals as goal

pub returns : goal.returns
returns c =
    let key : List ℕ = c.args.public.now in
    let n : length key ≡ 60 = omega arith in
    let bits : 61 ≡ length (0 ∷ key) = omega (arith, n) in
    let a : List ℕ = spelling algorithm_identifier own_algorithm in
    let last = c.bytes-2.new.self in
    let inner = boxed c.write_algorithm.new.out c.header-2.new.self last 3 61 (0 ∷ key) bits c.header-2.ensures (written_more c.header-2.new.self c.bytes.new.self last (0 ∷ []) key c.bytes.ensures c.bytes-2.ensures) in
    subst (Writes c.args.out.now last) (sym (key_is key))
    (boxed c.args.out.now c.header.new.self last 48 78 (a ++ tlv 3 (0 ∷ key)) (sym (inner_size key n)) c.header.ensures (written_more c.header.new.self c.write_algorithm.new.out last a (tlv 3 (0 ∷ key)) c.write_algorithm.ensures inner))
