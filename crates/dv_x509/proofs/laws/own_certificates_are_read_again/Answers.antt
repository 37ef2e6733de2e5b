use Rattle.std.proofs.Common.{inl, refl, ◌∙◌, ◌∷◌, length, ◌≡◌, arith}
use Rattle.std.proofs.lemmas.List.{length-take-le}
use Rattle.sha2.specs.Sha256.{sha256}
use Rattle.sha2.proofs.Facts256.{length-sha256}
use Rattle.dv_schema.specs.Schema.{FieldsOf}
use Rattle.dv_x509.specs.Own.{OwnCertificate, OwnTbs, own_algorithm, own_fields, own_key_id}
use Rattle.dv_x509.specs.Types.{certificate_fields}
use Rattle.dv_x509.proofs.Judging.{not_long, only_in, well_judged}
use Rattle.dv_x509.proofs.OwnFits.{own_fits}
use Rattle.dv_x509.proofs.laws.own_certificates_are_read_again.Goals as goal

pub returns : goal.returns
unfolding OwnCertificate OwnTbs
returns c = λ text key signature from until serial k small first last short.
    let digest = length-sha256 key in
    let id : length (own_key_id key) ≡ 20 = length-take-le 20 (sha256 key) (omega (arith, digest)) in
    let v : FieldsOf certificate_fields = (own_fields text from until key serial, (own_algorithm, (0 ∷ signature, tt))) in
    let fits = own_fits text from until key (own_key_id key) serial signature k id small first last short in
    not_long 48 (OwnCertificate (OwnTbs text from until key serial) signature) short ∙ only_in 48 _ v (inl refl) fits refl ∙ well_judged v refl refl
