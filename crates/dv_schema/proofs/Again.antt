-- What is spelled so is read, whatever follows.
use Rattle.std.proofs.Common.{◌≡◌, ◌≢◌, ℕ, zero, suc, ◌+◌, ◌-◌, ◌/◌, ◌%◌, ◌<◌, ◌≤◌, ◌⊎◌, ◌||◌, ◌&&◌, not, Bool, true, false, eqb, Option, Some, None, Result, Ok, List, [], ◌∷◌, ◌++◌, length, map, refl, sym, ap, subst, ◌∙◌, inl, inr, arith}
use Rattle.std.specs.Prelude.{IfSome, IsTrue}
use Rattle.std.specs.List.{flat_map, AllByRecursion, list_all, list_any}
use Rattle.std.specs.Int.Digits.{number_from_digits}
use Rattle.std.proofs.lemmas.List.{length-append}
use Rattle.std.proofs.lemmas.List.Concat.{flat_map-cons}
use Rattle.std.proofs.lemmas.Bool.{lt-ltb, eqb-true, eqb-false, cases_Bool, eq-eqb, and_parts, ne_eqb, not-true}
use Rattle.dv_schema.specs.declared.refusal.Der.{Der}
use Rattle.dv_schema.specs.Tlv.{length_octets, tlv, integer_octets}
use Rattle.dv_schema.specs.Octets.{is_less, ascends, ascends_after, same_octets, is_one_of, are_apart}
use Rattle.dv_schema.specs.Rules.{is_allowed, is_number}
use Rattle.dv_schema.specs.Schema.{Schema, node, tagged, whole, raw, such, choice, Body, plain, unsigned, kept, done, field, optional, keyed, sequence_of, set_of, distinct_of, ValueOf, FieldsOf, spelling, contents, starts, is_among, spelled_if, key_place}
use Rattle.dv_schema.specs.Fits.{Fits, FieldsFit, FitsIn, WellFormed, is_tag, tag_of, inner}
use Rattle.dv_schema.specs.Clear.{tags_of, body_tags, disjoint, is_clear, is_clear_body, is_low, all_to}
use Rattle.dv_schema.specs.Reading.{Spot, Item, item_at, all_at, whole_at, taken, order_at, order_after, read, read_fields, starts_list, maybe_at, is_tag_of, within, primitive_at, distinct_at}
use Rattle.dv_schema.proofs.Items.{item_again, at}
use Rattle.dv_schema.proofs.Numbers.{number_fits}
use Rattle.dv_schema.proofs.Takes.{same_eqb, taken_text, concat_is, IsMember}
use Rattle.dv_schema.proofs.Begins.{Begins-append, begins, body_begins, starts_here, starts_else}

-- a reader that takes each spelling, whatever follows
pub IsAgain : {A : Type 0} → ℕ → (A → List ℕ) → (A → Type 0) → (Spot → Result (A × Spot) Der) → Type 0
IsAgain {A} n spell P f = (place : ℕ) (rest : List ℕ) (x : A) → P x → f (at n place (spell x ++ rest)) ≡ Ok (x, at n (place + length (spell x)) rest)

-- the item of a spelled value
item_of : ℕ → ℕ → ℕ → List ℕ → List ℕ → Item
item_of n place tag c rest = record { tag = tag; inside = at (n - 1) (place + (1 + length (length_octets (length c)))) c; after = at n (place + length (tlv tag c)) rest }

-- a spelled value is read as its item
item_here : (f : ℕ → Bool) (n place tag : ℕ) (c rest : List ℕ) → 0 < n → f tag ≡ true → eqb (tag % 32) 31 ≡ false → length c < 18446744073709551616
    → item_at f (at n place (tlv tag c ++ rest)) ≡ Ok (item_of n place tag c rest)
unfolding item_of
item_here f zero place tag c rest pos ok low small = absurd (omega arith)
item_here f (suc m) place tag c rest pos ok low small =
    let less : m ≡ suc m - 1 = omega arith in
    let made : ℕ → Result Item Der = λ k. Ok (record { tag = tag; inside = at k (place + (1 + length (length_octets (length c)))) c; after = at (suc m) (place + length (tlv tag c)) rest }) in
    item_again f m place tag c rest ok low small ∙ ap made less

-- spelled values, one after another, are read
all_again : {A : Type 0} (n : ℕ) (spell : A → List ℕ) (P : A → Type 0) (f : Spot → Result (A × Spot) Der) → IsAgain n spell P f → ((x : A) → P x → 0 < length (spell x))
    → (fuel place : ℕ) (xs : List A) → AllByRecursion P xs → length (flat_map spell xs) ≤ fuel → all_at f fuel (at n place (flat_map spell xs)) ≡ Ok xs
unfolding all_at IsAgain
all_again n spell P f again some zero place [] all le = refl
all_again n spell P f again some zero place (x ∷ xs) all le =
    let one = some x all.0 in
    let size = ap length (flat_map-cons spell x xs) ∙ length-append (spell x) (flat_map spell xs) in
    absurd (omega arith)
all_again n spell P f again some (suc fuel) place [] all le = refl
all_again n spell P f again some (suc fuel) place (x ∷ xs) all le =
    let one = some x all.0 in
    let size : length (flat_map spell (x ∷ xs)) ≡ length (spell x) + length (flat_map spell xs) = ap length (flat_map-cons spell x xs) ∙ length-append (spell x) (flat_map spell xs) in
    let t : eqb (length (flat_map spell (x ∷ xs))) 0 ≡ false = ne_eqb _ 0 (λ (e : length (flat_map spell (x ∷ xs)) ≡ 0). omega arith) in
    let here : f (at n place (flat_map spell (x ∷ xs))) ≡ Ok (x, at n (place + length (spell x)) (flat_map spell xs)) =
    ap (λ (l : List ℕ). f (at n place l)) (flat_map-cons spell x xs) ∙ again place (flat_map spell xs) x all.0 in
    let more = all_again n spell P f again some fuel (place + length (spell x)) xs all.1 (omega (arith, size)) in
    rw (t, here, more) refl

-- two tests that hold
both_true : (a b : Bool) → a ≡ true → b ≡ true → (a && b) ≡ true
both_true a b p q = rw (p, q) refl

-- one level less
some_left : (levels : ℕ) → suc levels - 1 ≡ levels
some_left levels = omega arith

-- a well-formed value is read, where its inside is
whole_tlv : (n : ℕ) (tags : Option (List ℕ)) (place tag : ℕ) (c rest : List ℕ) → is_among tags tag ≡ true → is_tag None tag ≡ true → tag % 32 ≢ 31 → length c < 18446744073709551616
    → (((tag / 32 % 2 ≢ 1) × (is_allowed tag c ≡ true)) ⊎ ((tag / 32 % 2 ≡ 1) × (parts : List (List ℕ)) × ((p : ℕ) → all_at (whole_at None n) (length c) (at n p c) ≡ Ok parts)))
    → whole_at tags (suc n) (at (suc n) place (tlv tag c ++ rest)) ≡ Ok (tlv tag c, at (suc n) (place + length (tlv tag c)) rest)
unfolding whole_at item_of
whole_tlv n tags place tag c rest among high low small inner =
    let p : Spot = at (suc n) place (tlv tag c ++ rest) in
    let i : Item = item_of (suc n) place tag c rest in
    let ok : is_tag tags tag ≡ true = both_true (is_among tags tag) _ among high in
    let here : item_at (is_tag tags) p ≡ Ok i = item_here (is_tag tags) (suc n) place tag c rest (omega arith) ok (ne_eqb _ 31 low) small in
    let text : taken p i.after ≡ tlv tag c = taken_text p i.after (tlv tag c) refl in
    elim inner [
      | inl h ↦
          let t : eqb (tag / 32 % 2) 1 ≡ false = ne_eqb _ 1 h.0 in
          rw (here, t, h.1, text) refl
      | inr h ↦
          let t : eqb (tag / 32 % 2) 1 ≡ true = eq-eqb _ _ h.0 in
          let place' : ℕ = place + (1 + length (length_octets (length c))) in
          let all : all_at (whole_at None n) (length c) (at (suc n - 1) place' c) ≡ Ok h.1 = ap (λ (k : ℕ). all_at (whole_at None n) (length c) (at k place' c)) (some_left n) ∙ h.2 place' in
          rw (here, t, all, text) refl
    ]

-- a well-formed value has an octet
nonempty : (n : ℕ) (x : List ℕ) → WellFormed n x → 0 < length x
nonempty zero x h = absurd h
nonempty (suc n) x h = omega (arith, ap length h.2)

-- a well-formed value is read
whole_again : (n : ℕ) (tags : Option (List ℕ)) → IsAgain n (λ (x : List ℕ). x) (λ x. WellFormed n x × IsTrue (is_among tags (tag_of x))) (whole_at tags n)
unfolding IsAgain
whole_again zero tags place rest x h = absurd h.0
whole_again (suc n) tags place rest x h =
    let tag : ℕ = h.0.0 in
    let c : List ℕ = h.0.1 in
    let e : x ≡ tlv tag c = h.0.2 in
    let among : is_among tags tag ≡ true = ap (is_among tags) (sym (ap tag_of e)) ∙ h.1 in
    let Q : List ℕ → Type 0 = λ y. whole_at tags (suc n) (at (suc n) place (y ++ rest)) ≡ Ok (y, at (suc n) (place + length y) rest) in
    let inner : ((tag / 32 % 2 ≢ 1) × (is_allowed tag c ≡ true)) ⊎ ((tag / 32 % 2 ≡ 1) × (parts : List (List ℕ)) × ((p : ℕ) → all_at (whole_at None n) (length c) (at n p c) ≡ Ok parts)) =
    elim h.0.6 [
      | inl k ↦ inl k
      | inr k ↦
          let flat : flat_map (λ (y : List ℕ). y) k.1 ≡ c = concat_is k.1 ∙ sym k.2 in
          let again : (place : ℕ) (rest : List ℕ) (y : List ℕ) → WellFormed n y → whole_at None n (at n place (y ++ rest)) ≡ Ok (y, at n (place + length y) rest) =
          λ place rest y w. whole_again n None place rest y (w, refl) in
          inr (
            k.0,
            k.1,
            λ p. subst (λ (d : List ℕ). all_at (whole_at None n) (length d) (at n p d) ≡ Ok k.1) flat
                (all_again n (λ (y : List ℕ). y) (WellFormed n) (whole_at None n) again (nonempty n) (length (flat_map (λ (y : List ℕ). y) k.1)) p k.1 k.3 (omega arith)),
          )
    ] in
    subst Q (sym e) (whole_tlv n tags place tag c rest among h.0.4 h.0.3 h.0.5 inner)

-- a field that may be absent
maybe_again : {A : Type 0} (n place : ℕ) (spell : A → List ℕ) (P : A → Type 0) (f : Spot → Result (A × Spot) Der) (g : ℕ → Bool) (o : Option A) (rest : List ℕ)
    → ((x : A) → P x → f (at n place (spell x ++ rest)) ≡ Ok (x, at n (place + length (spell x)) rest))
    → ((x : A) → P x → starts_list g (spell x ++ rest) ≡ true) → starts_list g rest ≡ false → IfSome o P
    → maybe_at (starts_list g (spelled_if spell o ++ rest)) (at n place (spelled_if spell o ++ rest)) (f (at n place (spelled_if spell o ++ rest))) ≡ Ok (o, at n (place + length (spelled_if spell o)) rest)
maybe_again n place spell P f g None rest again here gone h =
    let z : place ≡ place + 0 = omega arith in
    rw gone (ap (λ (k : ℕ). Ok (None, at n k rest)) z)
maybe_again n place spell P f g (Some x) rest again here gone h = rw (here x h, again x h) refl

-- a list that needs a member has octets
some_there : {A : Type 0} (spell : A → List ℕ) (P : A → Type 0) → ((x : A) → P x → 0 < length (spell x)) → (some : Bool) (xs : List A) → (IsTrue some → xs ≢ []) → AllByRecursion P xs
    → (some && eqb (length (flat_map spell xs)) 0) ≡ false
some_there spell P full false xs some all = refl
some_there spell P full true [] some all = absurd (some refl refl)
some_there spell P full true (x ∷ xs) some all =
    let one = full x all.0 in
    let size : length (flat_map spell (x ∷ xs)) ≡ length (spell x) + length (flat_map spell xs) = ap length (flat_map-cons spell x xs) ∙ length-append (spell x) (flat_map spell xs) in
    ne_eqb _ 0 (λ (e : length (flat_map spell (x ∷ xs)) ≡ 0). omega arith)

-- what ascends behind a value isn't refused
order_again : (place : ℕ) (x : List ℕ) (ys : List (List ℕ)) → ascends_after x ys ≡ true → order_after place x ys ≡ Ok tt
order_again place x [] e = refl
order_again place x (y ∷ ys) e = let p = and_parts (not (is_less y x)) (ascends_after y ys) e in rw (not-true (is_less y x) p.0) (order_again (place + length y) y ys p.1)

-- what ascends isn't refused
orders_again : (place : ℕ) (xs : List (List ℕ)) → ascends xs ≡ true → order_at place xs ≡ Ok tt
orders_again place [] e = refl
orders_again place (x ∷ xs) e = order_again (place + length x) x xs e

-- what a test says of all members it says of each
all_among : (test : ℕ → Bool) (tags : List ℕ) (t : ℕ) → list_all test tags ≡ true → is_among (Some tags) t ≡ true → test t ≡ true
all_among test [] t all any = absurd cc
all_among test (u ∷ us) t all any =
    let p = and_parts (test u) (list_all test us) all in
    elim (cases_Bool (eqb t u)) [
      | inl e ↦ ap test (eqb-true t u e) ∙ p.0
      | inr f ↦ all_among test us t p.1 (ap (λ (b : Bool). b || list_any (λ v. eqb t v) us) (sym f) ∙ any)
    ]

-- what a test says of all numbers up to n it says of each
all_below : (n : ℕ) (test : ℕ → Bool) (i : ℕ) → all_to n test ≡ true → i ≤ n → test i ≡ true
all_below zero test i all le = let e : 0 ≡ i = omega arith in ap test (sym e) ∙ all
all_below (suc n) test i all le =
    let p = and_parts (test (suc n)) (all_to n test) all in
    elim (cases_Bool (eqb i (suc n))) [
      | inl e ↦ ap test (eqb-true i (suc n) e) ∙ p.0
      | inr f ↦ let ne : i ≢ suc n = eqb-false _ _ f in all_below n test i p.1 (omega arith)
    ]

-- the place of a key is at most the number of keys
key_within : (keys : List (List ℕ)) (c : List ℕ) → key_place keys c ≤ length keys
key_within [] c = omega arith
key_within (k ∷ ks) c =
    let more = key_within ks c in
    elim (cases_Bool (same_octets c k)) [
      | inl e ↦ rw e (omega arith)
      | inr f ↦ rw f (omega arith)
    ]

-- a spelled primitive value is read
primitive_again : (tag : ℕ) (rule : List ℕ → Bool) (n : ℕ) → is_low tag ≡ true → IsAgain n (tlv tag) (λ c. FitsIn tag n c (λ _. IsTrue (rule c))) (primitive_at tag rule)
unfolding IsAgain item_of
primitive_again tag rule n low place rest c h =
    let here : item_at (is_tag_of tag) (at n place (tlv tag c ++ rest)) ≡ Ok (item_of n place tag c rest) = item_here (is_tag_of tag) n place tag c rest h.0 (same_eqb tag) (not-true _ low) h.1 in
    rw (here, h.2) refl

-- a reader of contents to their end that takes each spelling
IsContentsAgain : {A : Type 0} → (A → List ℕ) → (ℕ → A → Type 0) → (ℕ → Spot → Result A Der) → Type 0
IsContentsAgain {A} spell P f = (n own place : ℕ) (v : A) → P n v → f own (at n place (spell v)) ≡ Ok v

-- one turn over the members of a list without repetitions
pub distinct_turn : {A B : Type 0} (key : List ℕ → List ℕ) (tag : ℕ) (f : ℕ → Spot → Result A Der) (g : ℕ → Spot → Result B Der) (fuel : ℕ) (seen : List (List ℕ)) (p : Spot) (i : Item) (v : A) (w : B) (vs : List A)
    → eqb (length p.rest) 0 ≡ false → item_at (is_tag_of tag) p ≡ Ok i → f p.place (within i) ≡ Ok v → is_one_of seen (key i.inside.rest) ≡ false → g p.place (within i) ≡ Ok w
    → distinct_at key tag f g fuel (key i.inside.rest ∷ seen) i.after ≡ Ok vs → distinct_at key tag f g (suc fuel) seen p ≡ Ok (v ∷ vs)
unfolding distinct_at
distinct_turn key tag f g fuel seen p i v w vs some item one new other more = rw (some, item, one, new, other, more) refl

-- where nothing is left there are no members
distinct_end : {A B : Type 0} (key : List ℕ → List ℕ) (tag : ℕ) (f : ℕ → Spot → Result A Der) (g : ℕ → Spot → Result B Der) (fuel : ℕ) (seen : List (List ℕ)) (n place : ℕ) → distinct_at key tag f g fuel seen (at n place []) ≡ Ok []
unfolding distinct_at
distinct_end key tag f g zero seen n place = refl
distinct_end key tag f g (suc fuel) seen n place = refl

-- spelled members without repetitions are read
distinct_again : {A B : Type 0} (key : List ℕ → List ℕ) (tag n : ℕ) (spell : A → List ℕ) (P : ℕ → A → Type 0) (f : ℕ → Spot → Result A Der) (spell' : B → List ℕ) (P' : ℕ → B → Type 0) (g : ℕ → Spot → Result B Der)
    → is_low tag ≡ true → IsContentsAgain spell P f → IsContentsAgain spell' P' g
    → (fuel place : ℕ) (seen : List (List ℕ)) (xs : List A) → AllByRecursion (IsMember tag n spell P spell' P') xs → are_apart seen (map (λ x. key (spell x)) xs) ≡ true
    → length (flat_map (λ x. tlv tag (spell x)) xs) ≤ fuel → distinct_at key tag f g fuel seen (at n place (flat_map (λ x. tlv tag (spell x)) xs)) ≡ Ok xs
unfolding IsContentsAgain item_of
distinct_again key tag n spell P f spell' P' g low again again' fuel place seen [] all apart le = distinct_end key tag f g fuel seen n place
distinct_again key tag n spell P f spell' P' g low again again' zero place seen (x ∷ xs) all apart le = absurd (omega arith)
distinct_again {A} {B} key tag n spell P f spell' P' g low again again' (suc fuel) place seen (x ∷ xs) all apart le =
    let rest : List ℕ = flat_map (λ y. tlv tag (spell y)) xs in
    let c : List ℕ = spell x in
    let p : Spot = at n place (tlv tag c ++ rest) in
    let i : Item = item_of n place tag c rest in
    let h = all.0 in
    let m : ℕ = inner tag (n - 1) in
    let place' : ℕ = place + (1 + length (length_octets (length c))) in
    let some : eqb (length p.rest) 0 ≡ false = ne_eqb _ 0 (λ (e : length p.rest ≡ 0). omega arith) in
    let here : item_at (is_tag_of tag) p ≡ Ok i = item_here (is_tag_of tag) n place tag c rest h.0 (same_eqb tag) (not-true _ low) h.1 in
    let one : f place (at m place' c) ≡ Ok x = again m place place' x h.2.0 in
    let d = and_parts (not (is_one_of seen (key c))) (are_apart (key c ∷ seen) (map (λ y. key (spell y)) xs)) apart in
    let other : g place (at m place' c) ≡ Ok h.2.1.0 = ap (λ (l : List ℕ). g place (at m place' l)) h.2.1.1 ∙ again' m place place' h.2.1.0 h.2.1.2 in
    let size : length (flat_map (λ y. tlv tag (spell y)) (x ∷ xs)) ≡ length (tlv tag c) + length rest = ap length (flat_map-cons (λ y. tlv tag (spell y)) x xs) ∙ length-append (tlv tag c) rest in
    let more = distinct_again key tag n spell P f spell' P' g low again again' fuel (place + length (tlv tag c)) (key c ∷ seen) xs all.1 d.1 (omega (arith, size)) in
    distinct_turn key tag f g fuel seen p i x h.2.1.0 xs some here one (not-true _ d.0) other more

mutual
  unfolding read IsAgain item_of IsContentsAgain

  -- a schema's reader takes each spelling
  pub read_again : (s : Schema) (n : ℕ) → is_clear s ≡ true → IsAgain n (spelling s) (Fits s n) (read s)
  read_again (node tag b) n clear place rest v h =
      let c : List ℕ = contents b v in
      let cl = and_parts (is_low tag) (is_clear_body b) clear in
      let p : Spot = at n place (tlv tag c ++ rest) in
      let here : item_at (is_tag_of tag) p ≡ Ok (item_of n place tag c rest) = item_here (is_tag_of tag) n place tag c rest h.0 (same_eqb tag) (not-true _ cl.0) h.1 in
      let inside = fields_again b (inner tag (n - 1)) place (place + (1 + length (length_octets (length c)))) v cl.1 h.2 in
      rw (here, inside) refl
  read_again (tagged tags f) n clear place rest v h =
      let tag : ℕ = v.0 in
      let c : List ℕ = contents (f v.0) v.1 in
      let test : ℕ → Bool = λ t. is_low t && is_clear_body (f t) in
      let cl = and_parts (is_low tag) (is_clear_body (f tag)) (all_among test tags tag clear h.0) in
      let p : Spot = at n place (tlv tag c ++ rest) in
      let here : item_at (is_among (Some tags)) p ≡ Ok (item_of n place tag c rest) = item_here (is_among (Some tags)) n place tag c rest h.1.0 h.0 (not-true _ cl.0) h.1.1 in
      let inside = fields_again (f v.0) (inner tag (n - 1)) place (place + (1 + length (length_octets (length c)))) v.1 cl.1 h.1.2 in
      rw (here, inside) refl
  read_again (whole tags) n clear place rest v h = whole_again n tags place rest v h
  read_again (raw s) n clear place rest v h =
      let text : taken (at n place (spelling s h.0 ++ rest)) (at n (place + length (spelling s h.0)) rest) ≡ spelling s h.0 =
      taken_text (at n place (spelling s h.0 ++ rest)) (at n (place + length (spelling s h.0)) rest) (spelling s h.0) refl in
      let Q : List ℕ → Type 0 = λ y. read (raw s) (at n place (y ++ rest)) ≡ Ok (y, at n (place + length y) rest) in
      subst Q (sym h.1) (rw (read_again s n clear place rest h.0 h.2, text) refl)
  read_again (such test s) n clear place rest v h =
      let text : taken (at n place (spelling s v ++ rest)) (at n (place + length (spelling s v)) rest) ≡ spelling s v =
      taken_text (at n place (spelling s v ++ rest)) (at n (place + length (spelling s v)) rest) (spelling s v) refl in
      rw (read_again s n clear place rest v h.0, text, h.1) refl
  read_again (choice a b) n clear place rest (inl v) h =
      let c0 = and_parts (disjoint (tags_of a) (tags_of b)) (is_clear a && is_clear b) clear in
      let c1 = and_parts (is_clear a) (is_clear b) c0.1 in
      let t = starts_here a (spelling a v) rest (begins a n v h) in
      rw (t, read_again a n c1.0 place rest v h) refl
  read_again (choice a b) n clear place rest (inr v) h =
      let c0 = and_parts (disjoint (tags_of a) (tags_of b)) (is_clear a && is_clear b) clear in
      let c1 = and_parts (is_clear a) (is_clear b) c0.1 in
      let t = starts_else a (tags_of b) (spelling b v ++ rest) c0.0 (inr (Begins-append (tags_of b) (spelling b v) rest (begins b n v h))) in
      rw (t, read_again b n c1.1 place rest v h) refl

  -- and so does that of contents
  pub fields_again : (b : Body) (n own place : ℕ) (v : FieldsOf b) → is_clear_body b ≡ true → FieldsFit b n v → read_fields b own (at n place (contents b v)) ≡ Ok v
  fields_again (plain rule) n own place v clear h = rw h refl
  fields_again (unsigned rule) n own place v clear h =
      let c : List ℕ = integer_octets v in
      let k = number_fits v in
      let ok : is_number rule c ≡ true = both_true _ _ (both_true _ _ k.0 (lt-ltb _ _ k.1)) (ap rule k.2 ∙ h) in
      let made : ℕ → Result ℕ Der = λ m. Ok m in
      let step : read_fields (unsigned rule) own (at n place c) ≡ Ok (number_from_digits 256 c) = rw ok refl in
      step ∙ ap made k.2
  fields_again (kept b) n own place v clear h =
      let Q : List ℕ → Type 0 = λ y. read_fields (kept b) own (at n place y) ≡ Ok y in
      subst Q (sym h.1) (rw (fields_again b n own place h.0 clear h.2) refl)
  fields_again done n own place v clear h = refl
  fields_again (field s b) n own place v clear h =
      let c = and_parts (is_clear s) (is_clear_body b) clear in
      rw (read_again s n c.0 place (contents b v.1) v.0 h.0, fields_again b n own (place + length (spelling s v.0)) v.1 c.1 h.1) refl
  fields_again (optional s b) n own place v clear h =
      let c0 = and_parts (disjoint (tags_of s) (body_tags b)) (is_clear s && is_clear_body b) clear in
      let c1 = and_parts (is_clear s) (is_clear_body b) c0.1 in
      let rest : List ℕ = contents b v.1 in
      let gone = starts_else s (body_tags b) rest c0.0 (body_begins b n v.1 h.1) in
      let one = maybe_again n place (spelling s) (Fits s n) (read s) (starts s) v.0 rest
      (λ x k. read_again s n c1.0 place rest x k) (λ x k. starts_here s (spelling s x) rest (begins s n x k)) gone h.0 in
      rw (one, fields_again b n own (place + length (spelled_if (spelling s) v.0)) v.1 c1.1 h.1) refl
  fields_again (keyed tag rule keys f) n own place v clear h =
      let cl = and_parts (is_low tag) (all_to (length keys) (λ i. is_clear_body (f i))) clear in
      let i : ℕ = key_place keys v.0 in
      let c = all_below (length keys) (λ j. is_clear_body (f j)) i cl.1 (key_within keys v.0) in
      let one = primitive_again tag rule n cl.0 place (contents (f (key_place keys v.0)) v.1) v.0 h.0 in
      rw (one, fields_again (f (key_place keys v.0)) n own (place + length (tlv tag v.0)) v.1 c h.1) refl
  fields_again (sequence_of some s) n own place v clear h =
      let full : (x : ValueOf s) → Fits s n x → 0 < length (spelling s x) = λ x k. (let g = begins s n x k in omega (arith, ap length g.is)) in
      let t : (some && eqb (length (flat_map (spelling s) v)) 0) ≡ false = some_there (spelling s) (Fits s n) full some v h.0 h.1 in
      rw t (all_again n (spelling s) (Fits s n) (read s) (read_again s n clear) full (length (flat_map (spelling s) v)) place v h.1 (omega arith))
  fields_again (set_of some s) n own place v clear h =
      let full : (x : ValueOf s) → Fits s n x → 0 < length (spelling s x) = λ x k. (let g = begins s n x k in omega (arith, ap length g.is)) in
      let t : (some && eqb (length (flat_map (spelling s) v)) 0) ≡ false = some_there (spelling s) (Fits s n) full some v h.0 h.1 in
      let all = all_again n (spelling s) (Fits s n) (read s) (read_again s n clear) full (length (flat_map (spelling s) v)) place v h.1 (omega arith) in
      rw (t, all, orders_again place (map (spelling s) v) h.2) refl
  fields_again (distinct_of some key tag b also) n own place v clear h =
      let c0 = and_parts (is_low tag) (is_clear_body b && is_clear_body also) clear in
      let c1 = and_parts (is_clear_body b) (is_clear_body also) c0.1 in
      let F : FieldsOf b → Type 0 = IsMember tag n (contents b) (FieldsFit b) (contents also) (FieldsFit also) in
      let t : (some && eqb (length (flat_map (λ x. tlv tag (contents b x)) v)) 0) ≡ false = some_there (λ x. tlv tag (contents b x)) F (λ x k. omega arith) some v h.0 h.1 in
      let first : (n own place : ℕ) (v : FieldsOf b) → FieldsFit b n v → read_fields b own (at n place (contents b v)) ≡ Ok v = λ n own place v k. fields_again b n own place v c1.0 k in
      let second : (n own place : ℕ) (v : FieldsOf also) → FieldsFit also n v → read_fields also own (at n place (contents also v)) ≡ Ok v = λ n own place v k. fields_again also n own place v c1.1 k in
      rw t (distinct_again key tag n (contents b) (FieldsFit b) (read_fields b) (contents also) (FieldsFit also) (read_fields also) c0.0 first second
      (length (flat_map (λ x. tlv tag (contents b x)) v)) place [] v h.1 h.2 (omega arith))

-- what is spelled so is read, whatever follows
pub spelled : (s : Schema) (p : Spot) (v : ValueOf s) (rest : List ℕ) → is_clear s ≡ true → Fits s p.levels v → p.rest ≡ spelling s v ++ rest
    → read s p ≡ Ok (v, at p.levels (p.place + length (spelling s v)) rest)
unfolding IsAgain
spelled s p v rest clear f same =
    ap (λ (l : List ℕ). read s (at p.levels p.place l)) same ∙ read_again s p.levels clear p.place rest v f
