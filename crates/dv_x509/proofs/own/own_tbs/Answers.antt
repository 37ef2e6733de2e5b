use Rattle.std.proofs.Common.{◌≡◌, ◌∙◌, ℕ, List, length, ap, arith}
use Rattle.dv_schema.specs.Schema.{contents, spelling}
use Rattle.dv_x509.specs.Own.{OwnTbs, own_fields_with}
use Rattle.dv_x509.specs.Types.{tbs_certificate, tbs_fields}
use Rattle.dv_x509.proofs.OwnLemmas.{value_size, whole_front}
use Rattle.dv_x509.proofs.own.own_tbs.Goals as goal

pub fill_tbs-requires-clause-room : goal.fill_tbs-requires-clause-room
fill_tbs-requires-clause-room c =
    let p = c.args.parts.now in
    let key : List ℕ = c.args.public.now in
    let id : List ℕ = c.key_id-id.result in
    let sixty : length key ≡ 60 = omega arith in
    let twenty : length id ≡ 20 = omega arith in
    let size = value_size 48 c.value_len.result c.contents_len.result (contents tbs_fields (own_fields_with p.name.now p.from p.until key id c.args.serial)) (c.contents_len.ensures.octets key id sixty twenty) c.value_len.ensures.octets in
    omega (arith, size, c.in_ok-octets.ensures.len, c.deref_mut.ensures.len)

pub returns : goal.returns
unfolding OwnTbs
returns c =
    let p = c.args.parts.now in
    let key : List ℕ = c.args.public.now in
    let id : List ℕ = c.key_id-id.result in
    let sixty : length key ≡ 60 = omega arith in
    let twenty : length id ≡ 20 = omega arith in
    let size = value_size 48 c.value_len.result c.contents_len.result (contents tbs_fields (own_fields_with p.name.now p.from p.until key id c.args.serial)) (c.contents_len.ensures.octets key id sixty twenty) c.value_len.ensures.octets in
    let into : List ℕ = c.fill_tbs.new.into in
    let same = ap length c.fill_tbs.ensures in
    let n : c.in_ok-octets.octets.len ≡ length into = omega (arith, size, same, c.in_ok-octets.ensures.len) in
    whole_front c.in_ok-octets.octets.len into _ n ∙ c.fill_tbs.ensures
    ∙ ap (λ (i : List ℕ). spelling tbs_certificate (own_fields_with p.name.now p.from p.until key i c.args.serial)) c.key_id-id.ensures
