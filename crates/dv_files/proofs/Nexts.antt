-- A certificate that octets begin with is the one that is read of them.
use Rattle.std.proofs.Common.{◌≡◌, ℕ, ◌+◌, ◌-◌, ◌<◌, ◌^◌, Bool, true, false, cond, ltb, Result, Ok, Err, is_ok, List, ◌++◌, take, length, refl, sym, ap, subst, ◌∙◌, inl, inr, arith}
use Rattle.std.specs.Prelude.{◌⊎◌, ◌↔◌, IfErr, IsErr, IsErrAnd, IsTrue}
use Rattle.std.proofs.lemmas.Bool.{cases_lt}
use Rattle.std.proofs.lemmas.List.{get_or_append_left, get_or_past, length-append, take_at}
use Rattle.dv_schema.specs.declared.refusal.Der.{Der}
use Rattle.dv_schema.specs.declared.refusal.Why.TheVariants.{Value}
use Rattle.dv_schema.specs.Clear.{is_clear}
use Rattle.dv_schema.specs.Fits.{Fits}
use Rattle.dv_schema.specs.Octets.{IsBytes}
use Rattle.dv_schema.specs.Reading.{Spot, Item, ◌>>=◌, item_at, is_tag_of, read, read_all, taken}
use Rattle.dv_schema.specs.Schema.{Schema, FieldsOf, ValueOf, contents, node, spelling}
use Rattle.dv_schema.specs.Tlv.{tlv}
use Rattle.dv_schema.specs.Types.{free}
use Rattle.dv_x509.specs.declared.fault.X509.{X509}
use Rattle.dv_x509.specs.declared.fault.X509.TheVariants.{Der as Refused, Version, Algorithm, TooLong}
use Rattle.dv_x509.specs.Judged.{certificate_front, certificate_in, judged_if}
use Rattle.dv_x509.specs.Types.{certificate, certificate_fields}
use Rattle.dv_draft.specs.Records.{IsCertificate, certificate_at, kept_at}
use Rattle.dv_files.specs.Certificates.{HasNone, IsNext, IsPlaceOf}

-- what the laws of the grammar say
abbrev pub SpelledWhereRead : Type 0
SpelledWhereRead = (s : Schema) (p q : Spot) (v : ValueOf s) → IsBytes p.rest → read s p ≡ Ok (v, q)
    → Fits s p.levels v × (p.rest ≡ spelling s v ++ q.rest) × (q.place ≡ p.place + length (spelling s v)) × (q.levels ≡ p.levels)

abbrev pub ReadWhereSpelled : Type 0
ReadWhereSpelled = (s : Schema) (p : Spot) (v : ValueOf s) (rest : List ℕ) → IsTrue (is_clear s) → Fits s p.levels v → p.rest ≡ spelling s v ++ rest
    → read s p ≡ Ok (v, record { levels = p.levels; place = p.place + length (spelling s v); rest = rest })

abbrev pub WholeWhereSpelled : Type 0
WholeWhereSpelled = (s : Schema) (p : Spot) (v : ValueOf s) → IsTrue (is_clear s) → IsBytes p.rest
    → (read_all s p ≡ Ok v) ↔ (Fits s p.levels v × (p.rest ≡ spelling s v))

-- octets in front of octets are octets
IsBytes-front : (xs ys : List ℕ) → IsBytes (xs ++ ys) → IsBytes xs
IsBytes-front xs ys h i =
    elim (cases_lt i (length xs)) [
      | inl lt ↦ subst (λ (n : ℕ). n < 256) (get_or_append_left xs ys 0 i lt) (h i)
      | inr le ↦ rw (get_or_past xs i 0 le) (omega arith)
    ]

-- ---- values with the tag of a certificate, whatever they hold

-- a value with this tag, as its contents
abbrev sequence : Schema
sequence = node 48 free

-- the contents of an item, and the spot behind it
abbrev opened : Item → Result (List ℕ × Spot) Der
opened i = Ok (i.inside.rest, i.after)

-- it is read where an item is
as_item : (p : Spot) → read sequence p ≡ (item_at (is_tag_of 48) p >>= opened)
unfolding read
as_item p = refl

-- where it is read there is an item
item_is : (r : Result Item Der) (c : List ℕ) (q : Spot) → (r >>= opened) ≡ Ok (c, q) → (i : Item) × (r ≡ Ok i) × (i.after ≡ q)
item_is (Ok i) c q e = (i, refl, (let pair : (i.inside.rest, i.after) ≡ (c, q) = cc in ap (λ (x : List ℕ × Spot). x.1) pair))
item_is (Err d) c q e = absurd cc

-- ---- what was judged

-- octets, and the spot behind them
abbrev before : Spot → List ℕ → Result (List ℕ × Spot) Der
before q octets = Ok (octets, q)

-- the octets of an item as a certificate, and the spot behind it
abbrev certified : Spot → Item → Result (List ℕ × Spot) Der
certified p i = kept_at p.place (taken p i.after) (certificate_in 48 (taken p i.after)) >>= before i.after

-- the octets and the spot of a certificate that was kept
record IsKept (r : Result (FieldsOf certificate_fields) X509) (octets kept : List ℕ) (after q : Spot) : Type 0 where
  ok : is_ok r ≡ true
  same : octets ≡ kept
  spot : after ≡ q

kept_is : (r : Result (FieldsOf certificate_fields) X509) (place : ℕ) (octets kept : List ℕ) (after q : Spot) → (kept_at place octets r >>= before after) ≡ Ok (kept, q) → IsKept r octets kept after q
kept_is (Ok v) place octets kept after q e =
    let pair : (octets, after) ≡ (kept, q) = cc in
    record { ok = refl; same = ap (λ (x : List ℕ × Spot). x.0) pair; spot = ap (λ (x : List ℕ × Spot). x.1) pair }
kept_is (Err (Refused d)) place octets kept after q e = absurd cc
kept_is (Err Version) place octets kept after q e = absurd cc
kept_is (Err Algorithm) place octets kept after q e = absurd cc
kept_is (Err TooLong) place octets kept after q e = absurd cc

-- an item that was read, with its octets as a certificate
record IsRead (p : Spot) (octets : List ℕ) (q : Spot) : Type 0 where
  item : Item
  is : item_at (is_tag_of 48) p ≡ Ok item
  after : item.after ≡ q
  decoded : IsCertificate (taken p item.after)
  same : taken p item.after ≡ octets

read_is : (p : Spot) (r : Result Item Der) (octets : List ℕ) (q : Spot) → r ≡ item_at (is_tag_of 48) p
    → (r >>= certified p) ≡ Ok (octets, q) → IsRead p octets q
read_is p (Ok i) octets q is e =
    let k = kept_is (certificate_in 48 (taken p i.after)) p.place (taken p i.after) octets i.after q e in
    record { item = i; is = sym is; after = k.spot; decoded = k.ok; same = k.same }
read_is p (Err d) octets q is e = absurd cc

-- what is a certificate was read
read_ok : (b : Bool) (r : Result (FieldsOf certificate_fields) Der) → is_ok (cond b (Err TooLong) (judged_if r)) ≡ true → (v : FieldsOf certificate_fields) × (r ≡ Ok v)
read_ok true r e = absurd cc
read_ok false (Ok v) e = (v, refl)
read_ok false (Err d) e = absurd cc

-- a certificate is a value with its tag, of a length that can be spelled
record IsValue (octets : List ℕ) : Type 0 where
  inside : List ℕ
  is : octets ≡ tlv 48 inside
  short : length inside < 2 ^ 64

value_of : WholeWhereSpelled → (octets : List ℕ) → IsBytes octets → IsCertificate octets → IsValue octets
unfolding certificate_in
value_of law octets bytes ok =
    let r = read_ok (ltb 8192 (length octets)) (read_all (certificate 48) (certificate_front octets)) ok in
    let s = (law (certificate 48) (certificate_front octets) r.0 refl bytes).0 r.1 in
    record { inside = contents certificate_fields r.0; is = s.1; short = s.0.1 }

-- ---- certificates at a spot

-- the spot behind octets
abbrev behind : Spot → List ℕ → List ℕ → Spot
behind p octets rest = record { levels = p.levels; place = p.place + length octets; rest = rest }

-- the octets of an item are those in front of what is left
taken_is : (p : Spot) (octets rest : List ℕ) (q : Spot) → p.rest ≡ octets ++ rest → q.rest ≡ rest → taken p q ≡ octets
taken_is p octets rest q is same =
    let few : length p.rest - length q.rest ≡ length octets = omega (arith, ap length is, ap length same, length-append octets rest) in
    ap (λ (n : ℕ). take n p.rest) few ∙ ap (take (length octets)) is ∙ take_at octets rest (length octets) refl

-- what is decoded is kept
kept_ok : (r : Result (FieldsOf certificate_fields) X509) (place : ℕ) (octets : List ℕ) (after : Spot) → is_ok r ≡ true → (kept_at place octets r >>= before after) ≡ Ok (octets, after)
kept_ok (Ok v) place octets after ok = refl
kept_ok (Err e) place octets after ok = absurd cc

-- an item whose octets are a certificate is read as one
item_read : (p : Spot) (i : Item) (octets : List ℕ) → item_at (is_tag_of 48) p ≡ Ok i → taken p i.after ≡ octets → IsCertificate octets → certificate_at p ≡ Ok (octets, i.after)
item_read p i octets item same ok =
    let last : List ℕ → Result (List ℕ × Spot) Der = λ o. kept_at p.place o (certificate_in 48 o) >>= before i.after in
    ap (λ (x : Result Item Der). x >>= certified p) item ∙ ap last same ∙ kept_ok (certificate_in 48 octets) p.place octets i.after ok

-- a certificate that octets begin with is read
pub certificate_read : ReadWhereSpelled → WholeWhereSpelled → (p : Spot) (octets rest : List ℕ) → IsBytes p.rest → 0 < p.levels → p.rest ≡ octets ++ rest → IsCertificate octets
    → certificate_at p ≡ Ok (octets, behind p octets rest)
certificate_read read_law whole_law p octets rest bytes deep is ok =
    let own : IsBytes octets = IsBytes-front octets rest (subst IsBytes is bytes) in
    let v = value_of whole_law octets own ok in
    let spelled : p.rest ≡ tlv 48 v.inside ++ rest = is ∙ ap (λ (o : List ℕ). o ++ rest) v.is in
    let here = read_law sequence p v.inside rest refl (deep, v.short, refl) spelled in
    let i = item_is (item_at (is_tag_of 48) p) v.inside (behind p (tlv 48 v.inside) rest) (sym (as_item p) ∙ here) in
    let after : i.0.after ≡ behind p octets rest = i.2 ∙ ap (λ (o : List ℕ). behind p o rest) (sym v.is) in
    let same = taken_is p octets rest i.0.after is (ap (λ (q : Spot). q.rest) after) in
    item_read p i.0 octets i.1 same ok ∙ ap (λ (q : Spot). Ok (octets, q)) after

-- what is read is a certificate that the octets begin with
certificate_found : SpelledWhereRead → (p : Spot) (octets : List ℕ) (q : Spot) → IsBytes p.rest → certificate_at p ≡ Ok (octets, q)
    → IsCertificate octets × (p.rest ≡ octets ++ q.rest) × (q.place ≡ p.place + length octets) × (q.levels ≡ p.levels)
certificate_found law p octets q bytes e =
    let r = read_is p (item_at (is_tag_of 48) p) octets q refl e in
    let i = r.item in
    let here : read sequence p ≡ Ok (i.inside.rest, i.after) = as_item p ∙ ap (λ (x : Result Item Der). x >>= opened) r.is in
    let s = law sequence p i.after i.inside.rest bytes here in
    let value : List ℕ = tlv 48 i.inside.rest in
    let same : value ≡ octets = sym (taken_is p value i.after.rest i.after s.1 refl) ∙ r.same in
    let P : List ℕ → Spot → Type 0 = λ o k. (p.rest ≡ o ++ k.rest) × (k.place ≡ p.place + length o) × (k.levels ≡ p.levels) in
    let told : P octets q = subst (P octets) r.after (subst (λ (o : List ℕ). P o i.after) same (s.1, s.2, s.3)) in
    (subst IsCertificate r.same r.decoded, told.0, told.1, told.2)

-- a certificate that is read is the next one
pub next_found : SpelledWhereRead → ReadWhereSpelled → WholeWhereSpelled → (p : Spot) (octets : List ℕ) (q : Spot) → IsBytes p.rest → 0 < p.levels
    → certificate_at p ≡ Ok (octets, q) → IsNext p octets q
next_found spelled_law read_law whole_law p octets q bytes deep e =
    let f = certificate_found spelled_law p octets q bytes e in
    record {
      decoded = f.0;
      is = f.1;
      place = f.2;
      levels = f.3;
      only = λ other rest ok is.
          (let here = certificate_read read_law whole_law p other rest bytes deep is ok in
          let pair : (other, behind p other rest) ≡ (octets, q) = cc in
          ap (λ (y : List ℕ × Spot). y.0) pair);
    }

-- where reading is refused, no certificate is next
pub none_next : ReadWhereSpelled → WholeWhereSpelled → (p : Spot) (place : ℕ) → IsBytes p.rest → 0 < p.levels → IsPlaceOf (certificate_at p) place
    → HasNone p
none_next read_law whole_law p place bytes deep e octets rest ok is =
    let here = certificate_read read_law whole_law p octets rest bytes deep is ok in
    let refused = e.1 in
    absurd cc

-- ---- what the reader meets

-- no item is there
pub no_item : (p : Spot) (d : Der) → item_at (is_tag_of 48) p ≡ Err d → IsPlaceOf (certificate_at p) d.place
no_item p d e =
    (d, ap (λ (x : Result Item Der). x >>= certified p) e, λ small. refl)

-- one that was kept, at an item
pub item_kept : (p : Spot) (i : Item) (octets : List ℕ) (v : FieldsOf certificate_fields) → item_at (is_tag_of 48) p ≡ Ok i → octets ≡ taken p i.after → certificate_in 48 octets ≡ Ok v
    → certificate_at p ≡ Ok (octets, i.after)
item_kept p i octets v item same ok = item_read p i octets item (sym same) (ap is_ok ok)

-- an item whose octets are refused
pub item_refused : (p : Spot) (i : Item) (octets : List ℕ) (cause : X509) (place : ℕ) → item_at (is_tag_of 48) p ≡ Ok i → octets ≡ taken p i.after → certificate_in 48 octets ≡ Err cause
    → ((o : List ℕ) → IsPlaceOf (kept_at p.place o (Err cause)) place) → IsPlaceOf (certificate_at p) place
item_refused p i octets cause place item same bad h =
    let k = h (taken p i.after) in
    let refused = ap (λ (x : Result Item Der). x >>= certified p) item
    ∙ ap (λ (o : List ℕ). kept_at p.place (taken p i.after) (certificate_in 48 o) >>= before i.after) (sym same)
    ∙ ap (λ (x : Result (FieldsOf certificate_fields) X509). kept_at p.place (taken p i.after) x >>= before i.after) bad
    ∙ ap (λ (x : Result (List ℕ) Der). x >>= before i.after) k.1 in
    (k.0, refused, k.2)

-- other causes have the certificate's own place
pub own_place : (place : ℕ) (cause : X509) → (cause ≡ Version) ⊎ ((cause ≡ Algorithm) ⊎ (cause ≡ TooLong)) → (octets : List ℕ) → IsPlaceOf (kept_at place octets (Err cause)) place
own_place place (Refused d) h octets = elim h [ inl e ↦ absurd cc | inr k ↦ elim k [ inl e ↦ absurd cc | inr e ↦ absurd cc ] ]
own_place place Version h octets = (record { place = place; why = Value }, refl, λ small. refl)
own_place place Algorithm h octets = (record { place = place; why = Value }, refl, λ small. refl)
own_place place TooLong h octets = (record { place = place; why = Value }, refl, λ small. refl)

-- what holds of an error holds of the one that a `?` gives back
pub told : {X E : Type 0} (r : Result X E) (e : E) (P : E → Type 0) → IsErr r × IsErrAnd r (λ x. x ≡ e) → P e → IfErr r P
told (Ok x) e P h p = tt
told (Err x) e P h p = subst P (sym h.1) p
