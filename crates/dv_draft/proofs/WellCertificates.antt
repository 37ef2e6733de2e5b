-- A certificate is a well-formed value, so a request may hold it.
use Rattle.std.proofs.Common.{◌≡◌, ◌≢◌, ◌≤◌, ◌/◌, ◌%◌, ◌&&◌, ◌||◌, ◌∙◌, ℕ, Bool, true, false, eqb, leb, ltb, true≢false, Option, None, Result, Ok, Err, List, [], ◌∷◌, length, inl, inr, refl, sym, subst}
use Rattle.std.specs.Prelude.{IsOk}
use Rattle.std.proofs.lemmas.Bool.{cases_Bool, eqb-false, ltb-false}
use Rattle.dv_schema.specs.Octets.{IsBytes}
use Rattle.dv_schema.specs.Rules.{is_bool, is_integer, is_true}
use Rattle.dv_schema.specs.Schema.{FieldsOf, spelling}
use Rattle.dv_schema.specs.Fits.{Fits, is_tag}
use Rattle.dv_schema.specs.Types.{bit_string, flag, is_not, oid, octet_string}
use Rattle.dv_schema.proofs.Decoding.{slice_takes}
use Rattle.dv_time.specs.Types.{time}
use Rattle.dv_names.specs.Types.{algorithm_identifier, extension_fields, name}
use Rattle.dv_request.specs.Materials.{IsCertificate as FitsRequest}
use Rattle.dv_request.proofs.WellLemmas.{AreStrict, IsStrict, IsTag, well}
use Rattle.dv_x509.specs.declared.fault.X509.{X509}
use Rattle.dv_x509.specs.Judged.{certificate_front, certificate_in}
use Rattle.dv_x509.specs.Types.{certificate, certificate_extensions, certificate_fields, public_key_info, serial_number, tbs_certificate, validity, version}
use Rattle.dv_x509.proofs.Judging.{judged_value, not_long}
use Rattle.dv_draft.specs.Records.{IsCertificate}

-- a tag of one octet
low : (tag : ℕ) → eqb (tag % 32) 31 ≡ false → is_tag None tag ≡ true → IsTag tag
low tag e i = (eqb-false _ _ e, i)

-- a primitive one
primitive_tag : (tag : ℕ) → eqb (tag / 32 % 2) 1 ≡ false → tag / 32 % 2 ≢ 1
primitive_tag tag e = eqb-false _ _ e

first_of : (a b : Bool) → (a && b) ≡ true → a ≡ true
first_of true b e = refl
first_of false b e = e

-- a TRUE is a BOOLEAN
either : (a b : Bool) → b ≡ true → (a || b) ≡ true
either true b e = refl
either false b e = e

true_bool : (v : List ℕ) → is_true v ≡ true → is_bool v ≡ true
true_bool [] e = absurd cc
true_bool (b ∷ []) e = either (eqb b 0) (eqb b 255) e
true_bool (b ∷ c ∷ cs) e = absurd cc

-- ---- the types of a certificate

oid_strict : IsStrict oid
oid_strict = (low 6 refl refl, inr (primitive_tag 6 refl, λ n v f. f))

octets_strict : IsStrict octet_string
octets_strict = (low 4 refl refl, inr (primitive_tag 4 refl, λ n v f. refl))

flag_strict : IsStrict (flag 1)
flag_strict = (low 1 refl refl, inr (primitive_tag 1 refl, λ n v f. true_bool v f))

bits_strict : IsStrict (bit_string 3)
bits_strict = (low 3 refl refl, inr (primitive_tag 3 refl, λ n v f. f))

issuer_id_strict : IsStrict (bit_string 129)
issuer_id_strict = (low 129 refl refl, inr (primitive_tag 129 refl, λ n v f. refl))

subject_id_strict : IsStrict (bit_string 130)
subject_id_strict = (low 130 refl refl, inr (primitive_tag 130 refl, λ n v f. refl))

algorithm_strict : IsStrict algorithm_identifier
algorithm_strict = (low 48 refl refl, inl (refl, (oid_strict, (tt, tt))))

name_strict : IsStrict name
name_strict = (low 48 refl refl, inl (refl, (low 49 refl refl, inl (refl, (low 48 refl refl, inl (refl, (oid_strict, (tt, tt))))))))

version_strict : IsStrict version
version_strict =
    (low 160 refl refl, inl (refl, ((low 2 refl refl, inr (primitive_tag 2 refl, λ n v f. first_of (is_integer v) (is_not (0 ∷ []) v) f)), tt)))

serial_strict : IsStrict serial_number
serial_strict = (low 2 refl refl, inr (primitive_tag 2 refl, λ n v f. first_of (is_integer v) (leb (length v) 20) f))

time_strict : IsStrict time
time_strict = ((low 23 refl refl, inr (primitive_tag 23 refl, λ n v f. refl)), (low 24 refl refl, inr (primitive_tag 24 refl, λ n v f. refl)))

validity_strict : IsStrict validity
validity_strict = (low 48 refl refl, inl (refl, (time_strict, (time_strict, tt))))

key_strict : IsStrict public_key_info
key_strict = (low 48 refl refl, inl (refl, (algorithm_strict, (bits_strict, tt))))

extension_strict : AreStrict extension_fields
extension_strict = (oid_strict, (flag_strict, (octets_strict, tt)))

extensions_strict : IsStrict certificate_extensions
extensions_strict = (low 163 refl refl, inl (refl, ((low 48 refl refl, inl (refl, (low 48 refl refl, refl, extension_strict))), tt)))

tbs_strict : IsStrict tbs_certificate
tbs_strict = (
  low 48 refl refl,
  inl (
    refl,
    (
      version_strict,
      (
        serial_strict,
        (
          algorithm_strict,
          (name_strict, (validity_strict, (name_strict, (key_strict, (issuer_id_strict, (subject_id_strict, (extensions_strict, tt))))))),
        ),
      ),
    ),
  ),
)

certificate_strict : IsStrict (certificate 48)
certificate_strict = (low 48 refl refl, inl (refl, (tbs_strict, (algorithm_strict, (bits_strict, tt)))))

-- ---- certificates

-- octets that spell one
pub certificate_fits : (octets : List ℕ) (v : FieldsOf certificate_fields) → Fits (certificate 48) 26 v → octets ≡ spelling (certificate 48) v → FitsRequest octets
certificate_fits octets v fits is = subst FitsRequest (sym is) (well (certificate 48) 26 v certificate_strict fits, refl)

-- one isn't longer
pub certificate_short : (octets : List ℕ) → IsCertificate octets → length octets ≤ 8192
unfolding certificate_in
certificate_short octets is =
    elim (cases_Bool (ltb 8192 (length octets))) [
      | inl long ↦ let none : false ≡ true = rw long at is in absurd (true≢false (sym none))
      | inr short ↦ ltb-false 8192 (length octets) short
    ]

-- what is there
there : (r : Result (FieldsOf certificate_fields) X509) → IsOk r → (v : FieldsOf certificate_fields) × (r ≡ Ok v)
there (Ok v) is = (v, refl)
there (Err cause) is = absurd cc

-- octets that decode as one
pub decoded_fits : (octets : List ℕ) → IsBytes octets → IsCertificate octets → FitsRequest octets
decoded_fits octets bytes is =
    let v = there (certificate_in 48 octets) is in
    let read = judged_value _ v.0 (sym (not_long 48 octets (certificate_short octets is)) ∙ v.1) in
    let took = slice_takes (certificate 48) (certificate_front octets) v.0 bytes read in
    certificate_fits octets v.0 took.0 took.1
