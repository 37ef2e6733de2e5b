use Rattle.std.proofs.Common.{◌≡◌, ◌+◌, ◌∷◌, ◌++◌, ◌∙◌, [], ℕ, List, length, ap, arith}
use Rattle.dv_schema.specs.Tlv.{tlv}
use Rattle.dv_schema.specs.Schema.{spelling}
use Rattle.dv_names.specs.Types.{algorithm_identifier}
use Rattle.dv_x509.specs.Own.{OwnCertificate, own_algorithm}
use Rattle.dv_x509.proofs.OwnLemmas.{certificate_size, value_size, whole_front}
use Rattle.dv_x509.proofs.own.own_certificate.Goals as goal

pub fill_certificate-requires-clause-room : goal.fill_certificate-requires-clause-room
unfolding OwnCertificate
fill_certificate-requires-clause-room c =
    let tbs : List ℕ = c.args.tbs.now in
    let signature : List ℕ = c.args.signature.now in
    let one : length signature + 1 ≡ length (0 ∷ signature) = omega arith in
    let inner = certificate_size tbs signature (length signature + 1) c.value_len.result one c.value_len.ensures.octets in
    let all : List ℕ = tbs ++ (spelling algorithm_identifier own_algorithm ++ (tlv 3 (0 ∷ signature) ++ [])) in
    let size = value_size 48 c.value_len-2.result (length tbs + 15 + c.value_len.result) all inner c.value_len-2.ensures.octets in
    omega (arith, size, c.in_ok-octets.ensures.len, c.deref_mut.ensures.len)

pub returns : goal.returns
unfolding OwnCertificate
returns c =
    let tbs : List ℕ = c.args.tbs.now in
    let signature : List ℕ = c.args.signature.now in
    let one : length signature + 1 ≡ length (0 ∷ signature) = omega arith in
    let inner = certificate_size tbs signature (length signature + 1) c.value_len.result one c.value_len.ensures.octets in
    let all : List ℕ = tbs ++ (spelling algorithm_identifier own_algorithm ++ (tlv 3 (0 ∷ signature) ++ [])) in
    let size = value_size 48 c.value_len-2.result (length tbs + 15 + c.value_len.result) all inner c.value_len-2.ensures.octets in
    let into : List ℕ = c.fill_certificate.new.into in
    let same = ap length c.fill_certificate.ensures in
    let n : c.in_ok-octets.octets.len ≡ length into = omega (arith, size, same, c.in_ok-octets.ensures.len) in
    whole_front c.in_ok-octets.octets.len into _ n ∙ c.fill_certificate.ensures
