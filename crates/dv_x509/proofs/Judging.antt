-- What decoding a certificate answers.
use Rattle.std.proofs.Common.{◌≡◌, ◌⊎◌, ◌≤◌, ◌<◌, not, ℕ, Bool, true, false, cond, ltb, List, length, Result, Ok, Err, inl, inr, refl, sym, ap, subst, ◌∙◌, arith}
use Rattle.std.proofs.lemmas.Bool.{lt-ltb, le-ltb}
use Rattle.dv_schema.specs.declared.refusal.Der.{Der}
use Rattle.dv_schema.specs.Octets.{IsBytes}
use Rattle.dv_schema.specs.Schema.{FieldsOf, spelling}
use Rattle.dv_schema.specs.Fits.{Fits}
use Rattle.dv_schema.specs.Clear.{is_clear}
use Rattle.dv_schema.specs.Reading.{read_all}
use Rattle.dv_schema.proofs.Decoding.{slice_spelled, slice_takes}
use Rattle.dv_x509.specs.declared.certificate.Certificate.{Certificate}
use Rattle.dv_x509.specs.declared.fault.X509.{X509}
use Rattle.dv_x509.specs.declared.fault.X509.TheVariants.{Version, Algorithm, TooLong}
use Rattle.dv_x509.specs.Judged.{Answers, certificate_front, certificate_in, is_known_version, judged, judged_if, same_algorithm}
use Rattle.dv_x509.specs.Types.{certificate, certificate_fields}
use Rattle.dv_x509.specs.View.{DecodesCertificate, view_certificate}

-- an answer
abbrev taken : FieldsOf certificate_fields → Result (FieldsOf certificate_fields) X509
taken v = Ok v

-- a value by two tests
abbrev tested : Bool → Bool → FieldsOf certificate_fields → Result (FieldsOf certificate_fields) X509
tested known agreed v = cond (not known) (Err Version) (cond (not agreed) (Err Algorithm) (Ok v))

tested_ok : (a b : Bool) (v w : FieldsOf certificate_fields) → tested a b v ≡ Ok w → v ≡ w
tested_ok false b v w e = absurd cc
tested_ok true false v w e = absurd cc
tested_ok true true v w e = cc

-- what was taken was read
pub judged_value : (r : Result (FieldsOf certificate_fields) Der) (w : FieldsOf certificate_fields) → judged_if r ≡ Ok w → r ≡ Ok w
judged_value (Ok v) w e = ap (λ (x : FieldsOf certificate_fields). Ok x) (tested_ok (is_known_version v.0.0) (same_algorithm v.0.1.1.0 v.1.0) v w e)
judged_value (Err d) w e = absurd cc

-- an unknown version
pub unknown_version : (v : FieldsOf certificate_fields) → is_known_version v.0.0 ≡ false → judged v ≡ Err Version
unknown_version v e = rw e refl

-- two algorithms
pub two_algorithms : (v : FieldsOf certificate_fields) → is_known_version v.0.0 ≡ true → same_algorithm v.0.1.1.0 v.1.0 ≡ false → judged v ≡ Err Algorithm
two_algorithms v e f = rw (e, f) refl

-- and what is taken
pub well_judged : (v : FieldsOf certificate_fields) → is_known_version v.0.0 ≡ true → same_algorithm v.0.1.1.0 v.1.0 ≡ true → judged v ≡ Ok v
well_judged v e f = rw (e, f) refl

-- the schema is clear under both tags
pub clear_under : (tag : ℕ) → (tag ≡ 48) ⊎ (tag ≡ 160) → is_clear (certificate tag) ≡ true
clear_under tag (inl e) = subst (λ (t : ℕ). is_clear (certificate t) ≡ true) (sym e) refl
clear_under tag (inr e) = subst (λ (t : ℕ). is_clear (certificate t) ≡ true) (sym e) refl

-- what fits under one of them fits under the other
pub fits_as_sequence : (tag : ℕ) (v : FieldsOf certificate_fields) → (tag ≡ 48) ⊎ (tag ≡ 160) → Fits (certificate tag) 26 v → Fits (certificate 48) 26 v
fits_as_sequence tag v (inl e) = subst (λ (t : ℕ). Fits (certificate t) 26 v → Fits (certificate 48) 26 v) (sym e) (λ f. f)
fits_as_sequence tag v (inr e) = subst (λ (t : ℕ). Fits (certificate t) 26 v → Fits (certificate 48) 26 v) (sym e) (λ f. f)

-- and has as many octets
pub short_as_sequence : (tag : ℕ) (octets : List ℕ) (v : FieldsOf certificate_fields) → length octets ≤ 8192 → octets ≡ spelling (certificate tag) v → length (spelling (certificate 48) v) ≤ 8192
short_as_sequence tag octets v few is = let n = ap length is in omega (arith, n, few)

-- octets that are too long
pub too_long : (tag : ℕ) (octets : List ℕ) → 8192 < length octets → DecodesCertificate tag (Err TooLong) octets
unfolding certificate_in
too_long tag octets long =
    let t : ltb 8192 (length octets) ≡ true = lt-ltb _ _ long in
    record { exact = rw t refl; found = tt; only = λ v few fits is. absurd (omega arith) }

-- octets that aren't
pub not_long : (tag : ℕ) (octets : List ℕ) → length octets ≤ 8192 → certificate_in tag octets ≡ judged_if (read_all (certificate tag) (certificate_front octets))
unfolding certificate_in
not_long tag octets few = let t : ltb 8192 (length octets) ≡ false = le-ltb _ _ few in rw t refl

-- what was taken fits
found_in : (tag : ℕ) (octets : List ℕ) (w : FieldsOf certificate_fields) → IsBytes octets → judged_if (read_all (certificate tag) (certificate_front octets)) ≡ Ok w
    → Fits (certificate tag) 26 w × (octets ≡ spelling (certificate tag) w)
found_in tag octets w bytes e = slice_takes (certificate tag) (certificate_front octets) w bytes (judged_value (read_all (certificate tag) (certificate_front octets)) w e)

-- what is spelled is judged
pub only_in : (tag : ℕ) (octets : List ℕ) (v : FieldsOf certificate_fields) → (tag ≡ 48) ⊎ (tag ≡ 160) → Fits (certificate tag) 26 v → octets ≡ spelling (certificate tag) v
    → judged_if (read_all (certificate tag) (certificate_front octets)) ≡ judged v
only_in tag octets v two fits is = ap judged_if (slice_spelled (certificate tag) (certificate_front octets) v (clear_under tag two) fits is)

-- an answer of what was read
pub decoded : (tag : ℕ) (octets : List ℕ) (result : Result Certificate X509) → (tag ≡ 48) ⊎ (tag ≡ 160) → length octets ≤ 8192 → IsBytes octets
    → Answers view_certificate result (judged_if (read_all (certificate tag) (certificate_front octets))) → DecodesCertificate tag result octets
decoded tag octets (Ok c) two few bytes h =
    let f = found_in tag octets (view_certificate c) bytes h in
    record {
      exact = not_long tag octets few ∙ h;
      found = (f.0, f.1, few);
      only = λ v _ fits is. sym (only_in tag octets v two fits is) ∙ h;
    }
decoded tag octets (Err e) two few bytes h =
    record {
      exact = not_long tag octets few ∙ h;
      found = tt;
      only = λ v _ fits is. sym (only_in tag octets v two fits is) ∙ h;
    }
