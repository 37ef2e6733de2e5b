-- What the tests on a certificate say of who issued it.
use Rattle.std.proofs.Common.{◌≡◌, ◌∙◌, ◌≤◌, ◌<◌, ◌+◌, ◌∷◌, ℕ, List, length, refl, sym, ap, subst, inl, inr, arith}
use Rattle.std.specs.Prelude.{Bool, Option, Some, false, slice_get, true}
use Rattle.std.proofs.lemmas.Bool.{cases_lt}
use Rattle.std.proofs.lemmas.Option.{slice_get_within}
use Rattle.dv_schema.specs.Schema.{FieldsOf, ValueOf, spelling}
use Rattle.dv_lms.specs.Verifies.{Verifies}
use Rattle.dv_time.specs.Text.{last_second}
use Rattle.dv_time.specs.Views.{view_time}
use Rattle.dv_x509.specs.Fields.{validity_of}
use Rattle.dv_x509.specs.Types.{certificate_fields, tbs_certificate, validity}
use Rattle.dv_path.specs.Anchors.{Anchored}
use Rattle.dv_path.specs.Issuing.{IsIssuedBy, IsSignedUnder, IsWithin}
use Rattle.dv_path.specs.Tables.{HasNoAnchor}

-- two moments with one text are the same
abbrev pub TellsMoments : Type 0
TellsMoments = (s t : ℕ) → s ≤ last_second → t ≤ last_second → view_time s ≡ view_time t → s ≡ t

-- a moment lies in a Validity exactly where it lies between its two moments
pub within : (from until t : ℕ) → from ≤ last_second → until ≤ last_second → from ≤ t → t ≤ until → IsWithin (validity_of from until) t
within from until t low high begun lasts =
    record { from = from; until = until; is = refl; from_moment = low; until_moment = high; begun = begun; lasts = lasts }

pub begins : TellsMoments → (from until t : ℕ) → from ≤ last_second → until ≤ last_second → IsWithin (validity_of from until) t → from ≤ t
begins law from until t low high h =
    let same : from ≡ h.from = law from h.from low h.from_moment (ap (λ (x : ValueOf validity). x.0) h.is) in
    omega (arith, same, h.begun)

pub ends : TellsMoments → (from until t : ℕ) → from ≤ last_second → until ≤ last_second → IsWithin (validity_of from until) t → t ≤ until
ends law from until t low high h =
    let same : until ≡ h.until = law until h.until high h.until_moment (ap (λ (x : ValueOf validity). x.1.0) h.is) in
    omega (arith, same, h.lasts)

-- the signature is the one that the certificate has
pub verified : (key : List ℕ) (v : FieldsOf certificate_fields) (signature : List ℕ) → v.1.1.0 ≡ 0 ∷ signature → IsSignedUnder key v → Verifies key (spelling tbs_certificate v.0) signature
verified key v signature bits h =
    let same : h.signature ≡ signature = (let e : 0 ∷ h.signature ≡ 0 ∷ signature = sym h.bits ∙ bits in cc) in
    subst (Verifies key (spelling tbs_certificate v.0)) same h.verifies

-- who issued it has one key
pub signed_by : (issuer : Anchored) (key : List ℕ) (v : FieldsOf certificate_fields) (t : ℕ) → issuer.key ≡ Some key → IsIssuedBy issuer v t → IsSignedUnder key v
signed_by issuer key v t has h =
    let same : h.key ≡ key = (let e : Some h.key ≡ Some key = sym h.has_key ∙ has in cc) in
    subst (λ (k : List ℕ). IsSignedUnder k v) same h.signed

-- ---- the first anchor that issued it

-- none of the first anchors, so many of them, issued it
abbrev pub IsNoneOf : List Anchored → FieldsOf certificate_fields → ℕ → ℕ → Type 0
IsNoneOf anchors v t n = (place : ℕ) (a : Anchored) → place < n → slice_get anchors place ≡ Some a → ¬ IsIssuedBy a v t

-- nor did the next
pub one_more : (anchors : List Anchored) (v : FieldsOf certificate_fields) (t n : ℕ) (x : Anchored) → slice_get anchors n ≡ Some x → IsNoneOf anchors v t n → ¬ IsIssuedBy x v t → IsNoneOf anchors v t (n + 1)
one_more anchors v t n x is none here place a lt got issued =
    elim (cases_lt place n) [
      | inl before ↦ none place a before got issued
      | inr behind ↦
          (let at : place ≡ n = omega arith in
          let same : a ≡ x = (let e : Some a ≡ Some x = sym got ∙ ap (slice_get anchors) at ∙ is in cc) in
          here (subst (λ (y : Anchored). IsIssuedBy y v t) same issued))
    ]

-- none of all
pub none_of_all : (anchors : List Anchored) (v : FieldsOf certificate_fields) (t n : ℕ) → length anchors ≤ n → IsNoneOf anchors v t n → HasNoAnchor anchors v t
none_of_all anchors v t n all none a place got = none place a (omega (arith, slice_get_within anchors place a got, all)) got

-- an anchor by its parts
pub anchor_is : (a : Anchored) (subject : List ℕ) (key : Option (List ℕ)) → subject ≡ a.subject → key ≡ a.key → record { subject = subject; key = key } ≡ a
anchor_is a subject key e f = rw (e, f) refl

-- what didn't issue it by its parts didn't
pub not_issued : (a : Anchored) (subject : List ℕ) (key : Option (List ℕ)) (v : FieldsOf certificate_fields) (t : ℕ) (b : Bool) → subject ≡ a.subject → key ≡ a.key → b ≡ false
    → (IsIssuedBy (record { subject = subject; key = key }) v t → b ≡ true) → ¬ IsIssuedBy a v t
not_issued a subject key v t b e f refused law h =
    let yes = law (subst (λ (x : Anchored). IsIssuedBy x v t) (sym (anchor_is a subject key e f)) h) in
    absurd cc
