-- What the contents of a record hold is what they were made of.
use Rattle.std.proofs.Common.{◌≡◌, ◌≢◌, ℕ, zero, suc, ◌+◌, ◌-◌, ◌%◌, ◌<◌, ◌≤◌, ◌^◌, ◌||◌, not, Bool, true, false, cond, eqb, ltb, Result, Ok, Err, List, [], ◌∷◌, ◌++◌, take, drop, length, refl, sym, ap, subst, ◌∙◌, arith, inl, inr}
use Rattle.std.specs.Int.Digits.{number_from_digits}
use Rattle.std.specs.List.{concat}
use Rattle.std.specs.Prelude.{All, IsOk}
use Rattle.std.proofs.lemmas.Bool.{eqb-true, eqb-false, ltb-false, le-ltb, ne_eqb, or_parts}
use Rattle.std.proofs.lemmas.List.{length-append, nil_from_length, take-append-le, drop-append-le}
use Rattle.std.proofs.lemmas.List.Elements.{All-nil, All-cons, All-head, All-tail}
use Rattle.dv_schema.specs.declared.refusal.Der.{Der}
use Rattle.dv_schema.specs.declared.refusal.Why.TheVariants.{Value, Trailing}
use Rattle.dv_schema.specs.Fits.{Fits}
use Rattle.dv_schema.specs.Octets.{IsBytes}
use Rattle.dv_schema.specs.Reading.{Spot, Item, ◌>>=◌, refuse, item_at, is_tag_of, taken, within, read, read_fields, read_all, length_at, sized_at, sizes_at, tagged_at}
use Rattle.dv_schema.specs.Rules.{first_or}
use Rattle.dv_schema.specs.Schema.{FieldsOf, ValueOf, spelling}
use Rattle.dv_schema.specs.Tlv.{tlv, length_octets}
use Rattle.dv_schema.proofs.Decoding.{slice_takes, slice_spelled}
use Rattle.dv_schema.proofs.Items.{item_takes, item_again, at}
use Rattle.dv_schema.proofs.Takes.{taken_text}
use Rattle.dv_schema.proofs.Tools.{bind_ok, ok_is, passed, allowed, chosen}
use Rattle.dv_members.specs.Members.{front_of}
use Rattle.dv_x509.specs.declared.fault.X509.{X509}
use Rattle.dv_x509.specs.declared.fault.X509.TheVariants.{Der as Refused, Version, Algorithm, TooLong}
use Rattle.dv_x509.specs.Judged.{certificate_front, certificate_in, judged_if}
use Rattle.dv_x509.specs.Types.{certificate, certificate_fields}
use Rattle.dv_draft.specs.Records.{IsCertificate, certificate_at, certificates_at, kept_at, list_at, record_in, record_of}
use Rattle.dv_draft.specs.Types.{draft}
use Rattle.dv_draft.proofs.CertificateLists.{at_end, at_one}

-- ---- what was read

-- a certificate that was kept was decoded
kept_ok : (place : ℕ) (octets c : List ℕ) (r : Result (FieldsOf certificate_fields) X509) → kept_at place octets r ≡ Ok c → (octets ≡ c) × IsOk r
kept_ok place octets c (Ok v) e = (ok_is octets c e, refl)
kept_ok place octets c (Err (Refused d)) e = absurd cc
kept_ok place octets c (Err Version) e = absurd cc
kept_ok place octets c (Err Algorithm) e = absurd cc
kept_ok place octets c (Err TooLong) e = absurd cc

-- a certificate that was read stands in front
record IsTaken (p : Spot) (x : List ℕ × Spot) : Type 0 where
  octets : p.rest ≡ x.0 ++ x.1.rest
  decoded : IsCertificate x.0
  fits : IsBytes x.1.rest

one_taken : (p : Spot) (x : List ℕ × Spot) → IsBytes p.rest → certificate_at p ≡ Ok x → IsTaken p x
one_taken p x bytes e =
    let a = bind_ok (item_at (is_tag_of 48) p) (λ (i : Item). kept_at p.place (taken p i.after) (certificate_in 48 (taken p i.after)) >>= λ c. Ok (c, i.after)) x e in
    let i : Item = a.0 in
    let h = item_takes (is_tag_of 48) p i bytes a.1 in
    let b = bind_ok (kept_at p.place (taken p i.after) (certificate_in 48 (taken p i.after))) (λ (c : List ℕ). Ok (c, i.after)) x a.2 in
    let k = kept_ok p.place (taken p i.after) b.0 (certificate_in 48 (taken p i.after)) b.1 in
    let text : taken p i.after ≡ tlv i.tag i.inside.rest = taken_text p i.after (tlv i.tag i.inside.rest) h.octets in
    let whole : p.rest ≡ b.0 ++ i.after.rest = h.octets ∙ ap (λ (t : List ℕ). t ++ i.after.rest) (sym text ∙ k.0) in
    let made : List ℕ × Spot = (b.0, i.after) in
    subst (IsTaken p) (ok_is made x b.2) (record { octets = whole; decoded = subst IsCertificate k.0 k.1; fits = h.after_fits })

-- certificates that were read are all that is there
record AreAll (room : ℕ) (octets : List ℕ) (cs : List (List ℕ)) : Type 0 where
  whole : octets ≡ concat cs
  few : length cs ≤ room
  decoded : All IsCertificate cs

-- none
no_more : (room : ℕ) (octets : List ℕ) → eqb (length octets) 0 ≡ true → AreAll room octets []
no_more room octets e = record { whole = nil_from_length octets (eqb-true _ _ e); few = omega arith; decoded = All-nil IsCertificate }

all_taken : (room own : ℕ) (p : Spot) (cs : List (List ℕ)) → IsBytes p.rest → certificates_at room own p ≡ Ok cs → AreAll room p.rest cs
all_taken zero own p cs bytes e =
    let g = allowed (eqb (length p.rest) 0) _ (Ok []) cs e in
    subst (AreAll zero p.rest) (ok_is [] cs g.1) (no_more zero p.rest g.0)
all_taken (suc room) own p cs bytes e =
    elim (chosen (eqb (length p.rest) 0) (Ok []) _ (Ok cs) e) [
      | inl h ↦ subst (AreAll (suc room) p.rest) (ok_is [] cs h.1) (no_more (suc room) p.rest h.0)
      | inr h ↦
          let a = bind_ok (certificate_at p) (λ (x : List ℕ × Spot). certificates_at room own x.1 >>= λ ds. Ok (x.0 ∷ ds)) cs h.1 in
          let t = one_taken p a.0 bytes a.1 in
          let b = bind_ok (certificates_at room own a.0.1) (λ (ds : List (List ℕ)). Ok (a.0.0 ∷ ds)) cs a.2 in
          let more = all_taken room own a.0.1 b.0 t.fits b.1 in
          let made : AreAll (suc room) p.rest (a.0.0 ∷ b.0) = record {
            whole = t.octets ∙ ap (λ (o : List ℕ). a.0.0 ++ o) more.whole;
            few = omega (arith, more.few);
            decoded = All-cons IsCertificate a.0.0 b.0 t.decoded more.decoded;
          } in
          subst (AreAll (suc room) p.rest) (ok_is (a.0.0 ∷ b.0) cs b.2) made
    ]

-- a list isn't empty where its octets aren't
some_certificate : (octets : List ℕ) (cs : List (List ℕ)) → octets ≡ concat cs → eqb (length octets) 0 ≡ false → 1 ≤ length cs
some_certificate octets [] e h = let n : length octets ≡ 0 = ap length e in absurd (eqb-false _ _ h n)
some_certificate octets (x ∷ cs) e h = omega arith

-- the contents of a record are those of what they hold
pub record WasWritten (contents : List ℕ) (x : List (List ℕ) × ValueOf draft) : Type 0 where
  pub whole : contents ≡ record_of x.0 x.1
  pub some : 1 ≤ length x.0
  pub few : length x.0 ≤ 6
  pub decoded : All IsCertificate x.0
  pub fits : Fits draft 32 x.1

pub written : (contents : List ℕ) (x : List (List ℕ) × ValueOf draft) → IsBytes contents → record_in contents ≡ Ok x → WasWritten contents x
unfolding record_in record_of
written contents x bytes e =
    let p : Spot = front_of contents in
    let a = bind_ok (list_at p) (λ (y : List (List ℕ) × Spot). read_all draft y.1 >>= λ d. Ok (y.0, d)) x e in
    let l = bind_ok (item_at (is_tag_of 48) p) (λ (i : Item). cond (eqb (length i.inside.rest) 0) (refuse p.place Value) (certificates_at 6 p.place i.inside) >>= λ cs. Ok (cs, i.after)) a.0 a.1 in
    let i : Item = l.0 in
    let h = item_takes (is_tag_of 48) p i bytes l.1 in
    let tag : i.tag ≡ 48 = eqb-true _ _ h.is_allowed in
    let m = bind_ok (cond (eqb (length i.inside.rest) 0) (refuse p.place Value) (certificates_at 6 p.place i.inside)) (λ (cs : List (List ℕ)). Ok (cs, i.after)) a.0 l.2 in
    let g = passed (eqb (length i.inside.rest) 0) _ (certificates_at 6 p.place i.inside) m.0 m.1 in
    let t = all_taken 6 p.place i.inside m.0 h.inside_fits g.1 in
    let last : ◌≡◌ {A = List (List ℕ) × Spot} (m.0, i.after) a.0 = ok_is _ _ m.2 in
    let d = bind_ok (read_all draft a.0.1) (λ (v : ValueOf draft). Ok (a.0.0, v)) x a.2 in
    let here : read_all draft i.after ≡ Ok d.0 = ap (λ (y : List (List ℕ) × Spot). read_all draft y.1) last ∙ d.1 in
    let s = slice_takes draft i.after d.0 h.after_fits here in
    let whole : contents ≡ tlv 48 (concat m.0) ++ spelling draft d.0 =
    h.octets ∙ ap (λ (n : ℕ). tlv n i.inside.rest ++ i.after.rest) tag ∙ ap (λ (o : List ℕ). tlv 48 o ++ i.after.rest) t.whole ∙ ap (λ (o : List ℕ). tlv 48 (concat m.0) ++ o) s.1 in
    let made : WasWritten contents (m.0, d.0) = record {
      whole = whole;
      some = some_certificate i.inside.rest m.0 t.whole g.0;
      few = t.few;
      decoded = t.decoded;
      fits = subst (λ (n : ℕ). Fits draft n d.0) h.after_levels s.0;
    } in
    let ends : ◌≡◌ {A = List (List ℕ) × ValueOf draft} (m.0, d.0) x = ap (λ (y : List (List ℕ) × Spot). (y.0, d.0)) last ∙ ok_is _ _ d.2 in
    subst (WasWritten contents) ends made

-- ---- what was written

-- the first octet stays
first_more : (more rest : List ℕ) → 0 < length more → first_or (more ++ rest) ≡ first_or more
first_more [] rest h = absurd (omega arith)
first_more (m ∷ more) rest h = refl

-- a length is the same, whatever follows
length_more : (place place' : ℕ) (more rest : List ℕ) (m : ℕ × ℕ) → length_at place more ≡ Ok m → length_at place' (more ++ rest) ≡ Ok m
length_more place place' [] rest m e = absurd cc
length_more place place' (first ∷ more) rest m e =
    elim (chosen (ltb first 128) (Ok (first, 1)) _ (Ok m) e) [
      | inl h ↦ rw h.0 h.1
      | inr h ↦
          let k : ℕ = first - 128 in
          let g1 = passed (eqb first 128 || ltb 136 first) _ _ m h.1 in
          let g2 = passed (ltb (length more) k) _ _ m g1.1 in
          let g3 = passed (eqb (first_or more) 0 || ltb (number_from_digits 256 (take k more)) 128) _ _ m g2.1 in
          let t1 = or_parts (eqb first 128) (ltb 136 first) g1.0 in
          let not128 : first ≢ 128 = eqb-false _ _ t1.0 in
          let high : 128 ≤ first = ltb-false _ _ h.0 in
          let have : k ≤ length more = ltb-false _ _ g2.0 in
          let still : ltb (length (more ++ rest)) k ≡ false = le-ltb _ _ (omega (arith, length-append more rest)) in
          let front : take k (more ++ rest) ≡ take k more = take-append-le k more rest have in
          let head : first_or (more ++ rest) ≡ first_or more = first_more more rest (omega arith) in
          rw (h.0, g1.0, still, front, head, g3.0) g3.1
    ]

-- a value that was read alone is read whatever follows
record IsMore (f : ℕ → Bool) (n place : ℕ) (octets rest : List ℕ) : Type 0 where
  item : Item
  behind : ℕ
  is : item_at f (at (suc n) place (octets ++ rest)) ≡ Ok item
  after : item.after ≡ at (suc n) behind rest

sized_more : (p q : Spot) (n tag : ℕ) (more rest : List ℕ) (m : ℕ × ℕ) (i : Item) → q.levels ≡ suc n → sized_at p tag more m ≡ Ok i → i.after.rest ≡ [] → sized_at q tag (more ++ rest) m
    ≡ Ok (record { tag = tag; inside = at (q.levels - 1) (q.place + (1 + m.1)) (take m.0 (drop m.1 (more ++ rest))); after = at q.levels (q.place + (1 + m.1 + m.0)) rest })
sized_more p q n tag more rest m i levels e none =
    let g2 = passed (ltb (length more) (m.1 + m.0)) _ _ i e in
    let g3 = passed (eqb p.levels 0) _ _ i g2.1 in
    let have : m.1 + m.0 ≤ length more = ltb-false _ _ g2.0 in
    let made : Item = record {
      tag = tag;
      inside = at (p.levels - 1) (p.place + (1 + m.1)) (take m.0 (drop m.1 more));
      after = at p.levels (p.place + (1 + m.1 + m.0)) (drop (m.1 + m.0) more);
    } in
    let end : drop (m.1 + m.0) more ≡ [] = ap (λ (j : Item). j.after.rest) (ok_is made i g3.1) ∙ none in
    let still : ltb (length (more ++ rest)) (m.1 + m.0) ≡ false = le-ltb _ _ (omega (arith, length-append more rest)) in
    let deep : eqb q.levels 0 ≡ false = ne_eqb q.levels 0 (λ (z : q.levels ≡ 0). omega arith) in
    let tail : drop (m.1 + m.0) (more ++ rest) ≡ rest = drop-append-le (m.1 + m.0) more rest have ∙ ap (λ (o : List ℕ). o ++ rest) end in
    rw (still, deep, tail) refl

item_read : (f : ℕ → Bool) (n place tag : ℕ) (more rest : List ℕ) (m : ℕ × ℕ) (j : Item) → (not (f tag) || eqb (tag % 32) 31) ≡ false → length_at place (more ++ rest) ≡ Ok m
    → sized_at (at (suc n) place ((tag ∷ more) ++ rest)) tag (more ++ rest) m ≡ Ok j → item_at f (at (suc n) place ((tag ∷ more) ++ rest)) ≡ Ok j
unfolding item_at
item_read f n place tag more rest m j g l s = rw (g, l) s

item_more : (f : ℕ → Bool) (p : Spot) (n place : ℕ) (octets rest : List ℕ) (i : Item) → tagged_at f p octets ≡ Ok i → i.after.rest ≡ [] → IsMore f n place octets rest
item_more f p n place [] rest i e none = absurd cc
item_more f p n place (tag ∷ more) rest i e none =
    let q : Spot = at (suc n) place ((tag ∷ more) ++ rest) in
    let g1 = passed (not (f tag) || eqb (tag % 32) 31) _ (sizes_at p tag more) i e in
    let b = bind_ok (length_at p.place more) (λ m. sized_at p tag more m) i g1.1 in
    let s = sized_more p q n tag more rest b.0 i refl b.2 none in
    let l = length_more p.place place more rest b.0 b.1 in
    let made : Item = record {
      tag = tag;
      inside = at (q.levels - 1) (q.place + (1 + b.0.1)) (take b.0.0 (drop b.0.1 (more ++ rest)));
      after = at q.levels (q.place + (1 + b.0.1 + b.0.0)) rest;
    } in
    record { item = made; behind = place + (1 + b.0.1 + b.0.0); is = item_read f n place tag more rest b.0 made g1.0 l s; after = refl }

-- a certificate is one value, to its end
record IsOne (octets : List ℕ) : Type 0 where
  item : Item
  is : tagged_at (is_tag_of 48) (certificate_front octets) octets ≡ Ok item
  end : item.after.rest ≡ []

-- what was taken was read
taken_value : (r : Result (FieldsOf certificate_fields) Der) → IsOk (judged_if r) → (v : FieldsOf certificate_fields) × (r ≡ Ok v)
taken_value (Ok v) h = (v, refl)
taken_value (Err d) h = absurd cc

not_refused : (b : Bool) (r : Result (FieldsOf certificate_fields) X509) → IsOk (cond b (Err TooLong) r) → IsOk r
not_refused true r h = absurd cc
not_refused false r h = h

one_value : (octets : List ℕ) → IsCertificate octets → IsOne octets
unfolding certificate_in read item_at
one_value octets h =
    let p : Spot = certificate_front octets in
    let v = taken_value (read_all (certificate 48) p) (not_refused (ltb 8192 (length octets)) _ h) in
    let a = bind_ok (read (certificate 48) p) (λ (y : ValueOf (certificate 48) × Spot). cond (eqb (length y.1.rest) 0) (Ok y.0) (refuse y.1.place Trailing)) v.0 v.1 in
    let g = allowed (eqb (length a.0.1.rest) 0) _ (Ok a.0.0) v.0 a.2 in
    let b = bind_ok (item_at (is_tag_of 48) p) (λ (i : Item). read_fields certificate_fields p.place (within i) >>= λ w. Ok (w, i.after)) a.0 a.1 in
    let f = bind_ok (read_fields certificate_fields p.place (within b.0)) (λ (w : FieldsOf certificate_fields). Ok (w, b.0.after)) a.0 b.2 in
    let last : ◌≡◌ {A = ValueOf (certificate 48) × Spot} (f.0, b.0.after) a.0 = ok_is _ _ f.2 in
    record { item = b.0; is = b.1; end = ap (λ (y : ValueOf (certificate 48) × Spot). y.1.rest) last ∙ nil_from_length _ (eqb-true _ _ g.0) }

-- and isn't empty
one_some : (octets : List ℕ) → IsOne octets → 0 < length octets
one_some [] h = let e = h.is in absurd cc
one_some (x ∷ octets) h = omega arith

-- what was decoded is kept
kept_again : (place : ℕ) (octets : List ℕ) (r : Result (FieldsOf certificate_fields) X509) → IsOk r → kept_at place octets r ≡ Ok octets
kept_again place octets (Ok v) h = refl
kept_again place octets (Err e) h = absurd cc

-- a certificate is read whatever follows
one_again : (n place : ℕ) (c rest : List ℕ) → IsCertificate c → (behind : ℕ) × (certificate_at (at (suc n) place (c ++ rest)) ≡ Ok (c, at (suc n) behind rest))
one_again n place c rest h =
    let o = one_value c h in
    let m = item_more (is_tag_of 48) (certificate_front c) n place c rest o.item o.is o.end in
    let p : Spot = at (suc n) place (c ++ rest) in
    let text : taken p m.item.after ≡ c = taken_text p m.item.after c (ap (λ (q : Spot). c ++ q.rest) (sym m.after)) in
    let kept = kept_again place c (certificate_in 48 c) h in
    let keep : Item → Result (List ℕ × Spot) Der = λ i. kept_at place (taken p i.after) (certificate_in 48 (taken p i.after)) >>= λ d. Ok (d, i.after) in (
      m.behind,
      ap (λ (r : Result Item Der). r >>= keep) m.is ∙ ap (λ (t : List ℕ). kept_at place t (certificate_in 48 t) >>= λ d. Ok (d, m.item.after)) text
          ∙ ap (λ (r : Result (List ℕ) Der). r >>= λ d. Ok (d, m.item.after)) kept ∙ ap (λ (q : Spot). Ok (c, q)) m.after,
    )

-- certificates are read, one after another
all_again : (room own n place : ℕ) (cs : List (List ℕ)) → length cs ≤ room → All IsCertificate cs → certificates_at room own (at (suc n) place (concat cs)) ≡ Ok cs
all_again room own n place [] le all = at_end room own (at (suc n) place []) refl
all_again zero own n place (c ∷ cs) le all = absurd (omega arith)
all_again (suc room) own n place (c ∷ cs) le all =
    let h : IsCertificate c = All-head IsCertificate c cs all in
    let o = one_again n place c (concat cs) h in
    let some : eqb (length (c ++ concat cs)) 0 ≡ false = ne_eqb _ 0 (λ (z : length (c ++ concat cs) ≡ 0). omega (arith, length-append c (concat cs), one_some c (one_value c h))) in
    let more = all_again room own n o.0 cs (omega arith) (All-tail IsCertificate c cs all) in
    at_one room own (at (suc n) place (c ++ concat cs)) (at (suc n) o.0 (concat cs)) c some o.1 ∙ ap (λ (r : Result (List (List ℕ)) Der). r >>= λ ds. Ok (c ∷ ds)) more

-- octets of certificates aren't empty
some_octets : (cs : List (List ℕ)) → 1 ≤ length cs → All IsCertificate cs → 0 < length (concat cs)
some_octets [] le all = absurd (omega arith)
some_octets (c ∷ cs) le all = omega (arith, length-append c (concat cs), one_some c (one_value c (All-head IsCertificate c cs all)))

-- the contents of a record are read
pub read_again : (cs : List (List ℕ)) (d : ValueOf draft) → 1 ≤ length cs → length cs ≤ 6 → All IsCertificate cs → Fits draft 32 d → length (record_of cs d) < 2 ^ 63 → record_in (record_of cs d) ≡ Ok (cs, d)
unfolding record_in record_of
read_again cs d some few all fits short =
    let c : List ℕ = concat cs in
    let rest : List ℕ = spelling draft d in
    let small : length c < 18446744073709551616 = omega (arith, length-append (tlv 48 c) rest, length-append (length_octets (length c)) c) in
    let item = item_again (is_tag_of 48) 31 0 48 c rest refl refl small in
    let inside : Spot = at 31 (0 + (1 + length (length_octets (length c)))) c in
    let after : Spot = at 32 (0 + length (tlv 48 c)) rest in
    let not_empty : eqb (length c) 0 ≡ false = ne_eqb _ 0 (λ (z : length c ≡ 0). omega (arith, some_octets cs some all)) in
    let listed : certificates_at 6 0 inside ≡ Ok cs = all_again 6 0 30 (0 + (1 + length (length_octets (length c)))) cs few all in
    let drafted : read_all draft after ≡ Ok d = slice_spelled draft after d refl fits refl in
    let list : list_at (front_of (tlv 48 c ++ rest)) ≡ Ok (cs, after) =
    ap (λ (r : Result Item Der). r >>= λ i. cond (eqb (length i.inside.rest) 0) (refuse 0 Value) (certificates_at 6 0 i.inside) >>= λ ds. Ok (ds, i.after)) item
    ∙ ap (λ (b : Bool). cond b (refuse 0 Value) (certificates_at 6 0 inside) >>= λ ds. Ok (ds, after)) not_empty
    ∙ ap (λ (r : Result (List (List ℕ)) Der). r >>= λ ds. Ok (ds, after)) listed in
    ap (λ (r : Result (List (List ℕ) × Spot) Der). r >>= λ y. read_all draft y.1 >>= λ v. Ok (y.0, v)) list ∙ ap (λ (r : Result (ValueOf draft) Der). r >>= λ v. Ok (cs, v)) drafted
