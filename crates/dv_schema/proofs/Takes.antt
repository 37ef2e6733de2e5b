-- What is read is spelled so.
use Rattle.std.proofs.Common.{◌≡◌, ◌≢◌, ℕ, zero, suc, ◌+◌, ◌-◌, ◌/◌, ◌%◌, ◌<◌, ◌≤◌, ◌⊎◌, ◌||◌, ◌&&◌, not, Bool, true, false, cond, eqb, ltb, Option, Some, None, Result, Ok, List, [], ◌∷◌, ◌++◌, take, length, map, refl, sym, ap, subst, ◌∙◌, inl, inr, arith}
use Rattle.std.specs.Prelude.{IfSome, IsTrue}
use Rattle.std.specs.List.{flat_map, AllByRecursion, concat}
use Rattle.std.specs.Int.Digits.{number_from_digits}
use Rattle.std.proofs.lemmas.List.{length-append, take_at, nil_from_length}
use Rattle.std.proofs.lemmas.List.Concat.{flat_map-cons}
use Rattle.std.proofs.lemmas.Bool.{ltb-true, eqb-true, eqb-false, both_ways, and_parts}
use Rattle.std.proofs.lemmas.Bool.Decides.{eqb_tells}
use Rattle.dv_schema.specs.declared.refusal.Der.{Der}
use Rattle.dv_schema.specs.declared.refusal.Why.TheVariants.{Value, Depth}
use Rattle.dv_schema.specs.Tlv.{tlv, integer_octets}
use Rattle.dv_schema.specs.Octets.{is_less, ascends, ascends_after, same_octets, is_one_of, are_apart}
use Rattle.dv_schema.specs.Rules.{is_allowed, is_number, is_integer, first_or}
use Rattle.dv_schema.specs.Schema.{Schema, node, tagged, whole, raw, such, choice, Body, plain, unsigned, kept, done, field, optional, keyed, sequence_of, set_of, distinct_of, ValueOf, FieldsOf, spelling, contents, starts, is_among, spelled_if, key_place}
use Rattle.dv_schema.specs.Fits.{Fits, FieldsFit, FitsIn, WellFormed, is_tag, tag_of, inner}
use Rattle.dv_schema.specs.Reading.{Spot, Item, ◌>>=◌, refuse, item_at, all_at, whole_at, taken, order_at, order_after, read, read_fields, starts_list, maybe_at, is_tag_of, within, primitive_at, distinct_at}
use Rattle.dv_schema.proofs.Tools.{bind_ok, ok_is, passed, allowed, chosen, IsBytes}
use Rattle.dv_schema.proofs.Items.{IsItem, item_takes}
use Rattle.dv_schema.proofs.Numbers.{number_back}

-- what a reader took from the front
pub record Takes (p : Spot) (text : List ℕ) (q : Spot) : Type 0 where
  pub octets : p.rest ≡ text ++ q.rest
  pub some : 0 < length text
  pub levels : q.levels ≡ p.levels
  pub place : q.place ≡ p.place + length text
  pub fits : IsBytes q.rest

-- a reader of one value, seen by its spelling
pub IsReader : {A : Type 0} → ℕ → (A → List ℕ) → (A → Type 0) → (Spot → Result (A × Spot) Der) → Type 0
IsReader {A} n spell P f = (p : Spot) (x : A × Spot) → p.levels ≡ n → IsBytes p.rest → f p ≡ Ok x → Takes p (spell x.0) x.1 × P x.0

-- values that were read, one after another, are spelled so
pub all_takes : {A : Type 0} (n : ℕ) (spell : A → List ℕ) (P : A → Type 0) (f : Spot → Result (A × Spot) Der) → IsReader n spell P f
    → (fuel : ℕ) (p : Spot) (xs : List A) → length p.rest ≤ fuel → p.levels ≡ n → IsBytes p.rest → all_at f fuel p ≡ Ok xs → (p.rest ≡ flat_map spell xs) × AllByRecursion P xs
unfolding all_at IsReader
all_takes n spell P f reads zero p xs le same fits e =
    subst (λ ys. (p.rest ≡ flat_map spell ys) × AllByRecursion P ys) (ok_is [] xs e) (nil_from_length p.rest (omega arith), tt)
all_takes {A} n spell P f reads (suc fuel) p xs le same fits e =
    elim (chosen (eqb (length p.rest) 0) (Ok []) _ (Ok xs) e) [
      | inl h ↦ subst (λ ys. (p.rest ≡ flat_map spell ys) × AllByRecursion P ys) (ok_is [] xs h.1) (nil_from_length p.rest (eqb-true _ _ h.0), tt)
      | inr h ↦
          let a = bind_ok (f p) (λ x. all_at f fuel x.1 >>= λ ys. Ok (x.0 ∷ ys)) xs h.1 in
          let b = bind_ok (all_at f fuel a.0.1) (λ ys. Ok (a.0.0 ∷ ys)) xs a.2 in
          let one = reads p a.0 same fits a.1 in
          let t = one.0 in
          let size : length p.rest ≡ length (spell a.0.0) + length a.0.1.rest = ap length t.octets ∙ length-append (spell a.0.0) a.0.1.rest in
          let more = all_takes n spell P f reads fuel a.0.1 b.0 (omega (arith, t.some)) (t.levels ∙ same) t.fits b.1 in
          let whole : p.rest ≡ flat_map spell (a.0.0 ∷ b.0) = t.octets ∙ ap (λ (r : List ℕ). spell a.0.0 ++ r) more.0 ∙ sym (flat_map-cons spell a.0.0 b.0) in
          subst (λ ys. (p.rest ≡ flat_map spell ys) × AllByRecursion P ys) (ok_is (a.0.0 ∷ b.0) xs b.2) (whole, (one.1, more.1))
    ]

-- values one after another
pub concat_is : (parts : List (List ℕ)) → flat_map (λ (x : List ℕ). x) parts ≡ concat parts
concat_is [] = refl
concat_is (x ∷ xs) = flat_map-cons (λ (y : List ℕ). y) x xs ∙ ap (λ (r : List ℕ). x ++ r) (concat_is xs)

-- a value that was read stands in front
item_text : (f : ℕ → Bool) (p : Spot) (i : Item) → IsItem f p p.rest i → Takes p (tlv i.tag i.inside.rest) i.after
item_text f p i h = record { octets = h.octets; some = omega arith; levels = h.after_levels; place = h.after_place; fits = h.after_fits }

-- its octets are the value
taken_is : (f : ℕ → Bool) (p : Spot) (i : Item) → IsItem f p p.rest i → taken p i.after ≡ tlv i.tag i.inside.rest
taken_is f p i h =
    let n : length p.rest - length i.after.rest ≡ length (tlv i.tag i.inside.rest) = omega (arith, ap length h.octets, length-append (tlv i.tag i.inside.rest) i.after.rest) in
    ap (λ (k : ℕ). take k p.rest) n ∙ ap (take (length (tlv i.tag i.inside.rest))) h.octets ∙ take_at (tlv i.tag i.inside.rest) i.after.rest (length (tlv i.tag i.inside.rest)) refl

-- octets are a well-formed value with one of some tags
pub IsWhole : Option (List ℕ) → ℕ → List ℕ → Type 0
IsWhole tags n text = WellFormed n text × IsTrue (is_among tags (tag_of text))

-- the inside of an item is allowed
Inner : ℕ → Item → Type 0
Inner levels i = ((i.tag / 32 % 2 ≢ 1) × IsTrue (is_allowed i.tag i.inside.rest)) ⊎ ((i.tag / 32 % 2 ≡ 1) × (parts : List (List ℕ)) × (i.inside.rest ≡ concat parts) × AllByRecursion (WellFormed levels) parts)

-- values with one of some tags are values
weaker : (tags : Option (List ℕ)) (n : ℕ) (parts : List (List ℕ)) → AllByRecursion (IsWhole tags n) parts → AllByRecursion (WellFormed n) parts
unfolding IsWhole
weaker tags n [] h = tt
weaker tags n (x ∷ xs) h = (h.0.0, weaker tags n xs h.1)

-- what is known of any value once its item was read and its inside looked at
whole_made : (tags : Option (List ℕ)) (levels : ℕ) (p : Spot) (i : Item) → IsItem (is_tag tags) p p.rest i → Inner levels i
    → Takes p (taken p i.after) i.after × IsWhole tags (suc levels) (taken p i.after)
unfolding IsWhole Inner
whole_made tags levels p i h inner =
    let text : List ℕ = tlv i.tag i.inside.rest in
    let is : taken p i.after ≡ text = taken_is (is_tag tags) p i h in
    let t = and_parts (is_among tags i.tag) (not (eqb i.tag 16 || eqb i.tag 17)) h.is_allowed in
    let low : i.tag % 32 ≢ 31 = eqb-false _ _ h.low_tag in
    let whole : Takes p text i.after × (WellFormed (suc levels) text × IsTrue (is_among tags (tag_of text))) =
    (item_text (is_tag tags) p i h, ((i.tag, i.inside.rest, refl, low, t.1, h.small, inner), t.0)) in
    subst (λ (x : List ℕ). Takes p x i.after × (WellFormed (suc levels) x × IsTrue (is_among tags (tag_of x)))) (sym is) whole

-- a value of any type that was read is well formed
pub whole_takes : (n : ℕ) (tags : Option (List ℕ)) → IsReader n (λ (x : List ℕ). x) (IsWhole tags n) (whole_at tags n)
unfolding whole_at IsReader Inner
whole_takes zero tags p x same fits e =
    let a = bind_ok (item_at (is_tag tags) p) (λ i. refuse p.place Depth) x e in absurd cc
whole_takes (suc n) tags p x same fits e =
    let a = bind_ok (item_at (is_tag tags) p) (λ i. cond (eqb (i.tag / 32 % 2) 1)
    (all_at (whole_at None n) (length i.inside.rest) i.inside >>= λ parts. Ok (taken p i.after, i.after))
    (cond (is_allowed i.tag i.inside.rest) (Ok (taken p i.after, i.after)) (refuse p.place Value))) x e in
    let i : Item = a.0 in
    let h = item_takes (is_tag tags) p i fits a.1 in
    let same_in : i.inside.levels ≡ n = omega (arith, h.levels) in
    let P : List ℕ × Spot → Type 0 = λ y. Takes p y.0 y.1 × IsWhole tags (suc n) y.0 in
    let gave : List ℕ × Spot = (taken p i.after, i.after) in
    elim (chosen (eqb (i.tag / 32 % 2) 1) _ _ (Ok x) a.2) [
      | inl r ↦
          let b = bind_ok (all_at (whole_at None n) (length i.inside.rest) i.inside) (λ parts. Ok gave) x r.1 in
          let all = all_takes n (λ (y : List ℕ). y) (IsWhole None n) (whole_at None n) (whole_takes n None) (length i.inside.rest) i.inside b.0 (omega arith) same_in h.inside_fits b.1 in
          subst P (ok_is gave x b.2) (whole_made tags n p i h (inr (eqb-true _ _ r.0, b.0, all.0 ∙ concat_is b.0, weaker None n b.0 all.1)))
      | inr r ↦
          let g = allowed (is_allowed i.tag i.inside.rest) _ (Ok gave) x r.1 in
          subst P (ok_is gave x g.1) (whole_made tags n p i h (inl (eqb-false _ _ r.0, g.0)))
    ]

-- a number is the same as itself
pub same_eqb : (n : ℕ) → eqb n n ≡ true
same_eqb n = elim (eqb_tells n n) [ inl h ↦ h.0 | inr h ↦ absurd (h.1 refl) ]

-- octets are the same as themselves
pub same_self : (d : List ℕ) → same_octets d d ≡ true
same_self [] = refl
same_self (x ∷ d) = rw (same_eqb x) (same_self d)

-- the octets between two spots
pub taken_text : (p q : Spot) (text : List ℕ) → p.rest ≡ text ++ q.rest → taken p q ≡ text
taken_text p q text e =
    let n : length p.rest - length q.rest ≡ length text = omega (arith, ap length e, length-append text q.rest) in
    ap (λ (k : ℕ). take k p.rest) n ∙ ap (take (length text)) e ∙ take_at text q.rest (length text) refl

-- a field that may be absent
maybe_takes : {A : Type 0} (spell : A → List ℕ) (P : A → Type 0) (b : Bool) (p : Spot) (r : Result (A × Spot) Der) (o : Option A × Spot) → IsBytes p.rest
    → ((x : A × Spot) → r ≡ Ok x → Takes p (spell x.0) x.1 × P x.0) → maybe_at b p r ≡ Ok o
    → (p.rest ≡ spelled_if spell o.0 ++ o.1.rest) × (o.1.levels ≡ p.levels) × IsBytes o.1.rest × IfSome o.0 P
maybe_takes {A} spell P false p r o fits one e =
    let Q : Option A × Spot → Type 0 = λ y. (p.rest ≡ spelled_if spell y.0 ++ y.1.rest) × (y.1.levels ≡ p.levels) × IsBytes y.1.rest × IfSome y.0 P in
    let none : Option A × Spot = (None, p) in
    subst Q (ok_is none o e) (refl, refl, fits, tt)
maybe_takes {A} spell P true p r o fits one e =
    let Q : Option A × Spot → Type 0 = λ y. (p.rest ≡ spelled_if spell y.0 ++ y.1.rest) × (y.1.levels ≡ p.levels) × IsBytes y.1.rest × IfSome y.0 P in
    let a = bind_ok r (λ x. Ok (Some x.0, x.1)) o e in
    let h = one a.0 a.1 in
    let made : Option A × Spot = (Some a.0.0, a.0.1) in
    subst Q (ok_is made o a.2) (h.0.octets, h.0.levels, h.0.fits, h.1)

-- what isn't refused ascends behind a value
order_takes : (place : ℕ) (x : List ℕ) (ys : List (List ℕ)) (u : Unit {0}) → order_after place x ys ≡ Ok u → ascends_after x ys ≡ true
order_takes place x [] u e = refl
order_takes place x (y ∷ ys) u e =
    let g = passed (is_less y x) _ (order_after (place + length y) y ys) u e in
    rw g.0 (order_takes (place + length y) y ys u g.1)

-- what isn't refused ascends
orders_take : (place : ℕ) (xs : List (List ℕ)) (u : Unit {0}) → order_at place xs ≡ Ok u → ascends xs ≡ true
orders_take place [] u e = refl
orders_take place (x ∷ xs) u e = order_takes (place + length x) x xs u e

-- a value with this item, whose contents are known
item_fits : (f : ℕ → Bool) (n : ℕ) (p : Spot) (i : Item) (c : List ℕ) (Q : ℕ → Type 0) → IsItem f p p.rest i → p.levels ≡ n → i.inside.rest ≡ c → Q (inner i.tag (n - 1))
    → Takes p (tlv i.tag c) i.after × FitsIn i.tag n c Q
item_fits f n p i c Q h same is fits = (
  subst (λ (k : List ℕ). Takes p (tlv i.tag k) i.after) is (item_text f p i h),
  (omega (arith, h.levels), subst (λ (k : List ℕ). length k < 18446744073709551616) is h.small, fits),
)

-- the levels that are left inside an item
within_levels : (f : ℕ → Bool) (n : ℕ) (p : Spot) (i : Item) → IsItem f p p.rest i → p.levels ≡ n → inner i.tag i.inside.levels ≡ inner i.tag (n - 1)
within_levels f n p i h same = let e : i.inside.levels ≡ n - 1 = omega (arith, h.levels) in ap (inner i.tag) e

-- a primitive value that was read is spelled so
primitive_takes : (tag : ℕ) (rule : List ℕ → Bool) (n : ℕ) → IsReader n (tlv tag) (λ c. FitsIn tag n c (λ _. IsTrue (rule c))) (primitive_at tag rule)
unfolding IsReader
primitive_takes tag rule n p x same fits e =
    let a = bind_ok (item_at (is_tag_of tag) p) (λ i. cond (rule i.inside.rest) (Ok i.inside.rest) (refuse p.place Value) >>= λ c. Ok (c, i.after)) x e in
    let i : Item = a.0 in
    let h = item_takes (is_tag_of tag) p i fits a.1 in
    let b = bind_ok (cond (rule i.inside.rest) (Ok i.inside.rest) (refuse p.place Value)) (λ c. Ok (c, i.after)) x a.2 in
    let g = allowed (rule i.inside.rest) _ (Ok i.inside.rest) b.0 b.1 in
    let is : i.inside.rest ≡ b.0 = ok_is i.inside.rest b.0 g.1 in
    let t : i.tag ≡ tag = eqb-true _ _ h.is_allowed in
    let made = item_fits (is_tag_of tag) n p i b.0 (λ _. IsTrue (rule b.0)) h same is (ap rule (sym is) ∙ g.0) in
    let P : ℕ → Type 0 = λ k. Takes p (tlv k b.0) i.after × FitsIn k n b.0 (λ _. IsTrue (rule b.0)) in
    let Q : List ℕ × Spot → Type 0 = λ y. Takes p (tlv tag y.0) y.1 × FitsIn tag n y.0 (λ _. IsTrue (rule y.0)) in
    subst Q (ok_is (b.0, i.after) x b.2) (subst P t made)

-- a reader of contents to their end
pub IsContents : {A : Type 0} → (A → List ℕ) → (ℕ → A → Type 0) → (ℕ → Spot → Result A Der) → Type 0
IsContents {A} spell P f = (n own : ℕ) (p : Spot) (v : A) → p.levels ≡ n → IsBytes p.rest → f own p ≡ Ok v → (p.rest ≡ spell v) × P n v

-- a member of a list without repetitions
abbrev pub IsMember : {A B : Type 0} → ℕ → ℕ → (A → List ℕ) → (ℕ → A → Type 0) → (B → List ℕ) → (ℕ → B → Type 0) → A → Type 0
IsMember {A} {B} tag n spell P spell' P' x = FitsIn tag n (spell x) (λ m. P m x × ((w : B) × (spell x ≡ spell' w) × P' m w))

-- members without repetitions that were read are spelled so
distinct_takes : {A B : Type 0} (key : List ℕ → List ℕ) (tag n : ℕ) (spell : A → List ℕ) (P : ℕ → A → Type 0) (f : ℕ → Spot → Result A Der) (spell' : B → List ℕ) (P' : ℕ → B → Type 0) (g : ℕ → Spot → Result B Der)
    → IsContents spell P f → IsContents spell' P' g
    → (fuel : ℕ) (seen : List (List ℕ)) (p : Spot) (xs : List A) → length p.rest ≤ fuel → p.levels ≡ n → IsBytes p.rest → distinct_at key tag f g fuel seen p ≡ Ok xs
    → (p.rest ≡ flat_map (λ x. tlv tag (spell x)) xs) × AllByRecursion (IsMember tag n spell P spell' P') xs × (are_apart seen (map (λ x. key (spell x)) xs) ≡ true)
unfolding distinct_at IsContents
distinct_takes {A} {B} key tag n spell P f spell' P' g reads reads' zero seen p xs le same fits e =
    let Q : List A → Type 0 = λ ys. (p.rest ≡ flat_map (λ x. tlv tag (spell x)) ys) × AllByRecursion (IsMember tag n spell P spell' P') ys × (are_apart seen (map (λ x. key (spell x)) ys) ≡ true) in
    subst Q (ok_is [] xs e) (nil_from_length p.rest (omega arith), tt, refl)
distinct_takes {A} {B} key tag n spell P f spell' P' g reads reads' (suc fuel) seen p xs le same fits e =
    let Q : List A → Type 0 = λ ys. (p.rest ≡ flat_map (λ x. tlv tag (spell x)) ys) × AllByRecursion (IsMember tag n spell P spell' P') ys × (are_apart seen (map (λ x. key (spell x)) ys) ≡ true) in
    elim (chosen (eqb (length p.rest) 0) (Ok []) _ (Ok xs) e) [
      | inl h ↦ subst Q (ok_is [] xs h.1) (nil_from_length p.rest (eqb-true _ _ h.0), tt, refl)
      | inr r ↦
          let more : Item → A → Result (List A) Der = λ i v. cond (is_one_of seen (key i.inside.rest)) (refuse p.place Value) (g p.place (within i) >>= λ _. distinct_at key tag f g fuel (key i.inside.rest ∷ seen) i.after >>= λ vs. Ok (v ∷ vs)) in
          let a = bind_ok (item_at (is_tag_of tag) p) (λ i. f p.place (within i) >>= λ v. more i v) xs r.1 in
          let i : Item = a.0 in
          let h = item_takes (is_tag_of tag) p i fits a.1 in
          let b = bind_ok (f p.place (within i)) (more i) xs a.2 in
          let v : A = b.0 in
          let d = passed (is_one_of seen (key i.inside.rest)) _ _ xs b.2 in
          let c = bind_ok (g p.place (within i)) (λ _. distinct_at key tag f g fuel (key i.inside.rest ∷ seen) i.after >>= λ vs. Ok (v ∷ vs)) xs d.1 in
          let l = bind_ok (distinct_at key tag f g fuel (key i.inside.rest ∷ seen) i.after) (λ vs. Ok (v ∷ vs)) xs c.2 in
          let m : ℕ = inner i.tag (n - 1) in
          let levels : inner i.tag i.inside.levels ≡ m = within_levels (is_tag_of tag) n p i h same in
          let own = reads m p.place (within i) v levels h.inside_fits b.1 in
          let front : spell v ≡ i.inside.rest = sym own.0 in
          let other = reads' m p.place (within i) c.0 levels h.inside_fits c.1 in
          let made = item_fits (is_tag_of tag) n p i (spell v) (λ m. P m v × ((w : B) × (spell v ≡ spell' w) × P' m w)) h same own.0 (own.1, (c.0, front ∙ other.0, other.1)) in
          let t : i.tag ≡ tag = eqb-true _ _ h.is_allowed in
          let one : Takes p (tlv tag (spell v)) i.after × IsMember tag n spell P spell' P' v =
          subst (λ (k : ℕ). Takes p (tlv k (spell v)) i.after × IsMember k n spell P spell' P' v) t made in
          let size : length p.rest ≡ length (tlv tag (spell v)) + length i.after.rest = ap length one.0.octets ∙ length-append (tlv tag (spell v)) i.after.rest in
          let rest = distinct_takes key tag n spell P f spell' P' g reads reads' fuel (key i.inside.rest ∷ seen) i.after l.0 (omega (arith, one.0.some)) (one.0.levels ∙ same) one.0.fits l.1 in
          let whole : p.rest ≡ flat_map (λ x. tlv tag (spell x)) (v ∷ l.0) = one.0.octets ∙ ap (λ (z : List ℕ). tlv tag (spell v) ++ z) rest.0 ∙ sym (flat_map-cons (λ x. tlv tag (spell x)) v l.0) in
          let new : is_one_of seen (key (spell v)) ≡ false = ap (λ (z : List ℕ). is_one_of seen (key z)) front ∙ d.0 in
          let apart : are_apart seen (map (λ x. key (spell x)) (v ∷ l.0)) ≡ true =
          rw new (ap (λ (z : List ℕ). are_apart (key z ∷ seen) (map (λ x. key (spell x)) l.0)) front ∙ rest.2) in
          subst Q (ok_is (v ∷ l.0) xs l.2) (whole, (one.1, rest.1), apart)
    ]

mutual
  unfolding read IsReader IsWhole IsContents

  -- a schema's reader takes a spelling
  pub read_takes : (s : Schema) (n : ℕ) → IsReader n (spelling s) (Fits s n) (read s)
  read_takes (node tag b) n p x same fits e =
      let a = bind_ok (item_at (is_tag_of tag) p) (λ i. read_fields b p.place (within i) >>= λ v. Ok (v, i.after)) x e in
      let i : Item = a.0 in
      let h = item_takes (is_tag_of tag) p i fits a.1 in
      let c = bind_ok (read_fields b p.place (within i)) (λ v. Ok (v, i.after)) x a.2 in
      let t : i.tag ≡ tag = eqb-true _ _ h.is_allowed in
      let m : ℕ = inner i.tag (n - 1) in
      let inside = fields_take b m p.place (within i) c.0 (within_levels (is_tag_of tag) n p i h same) h.inside_fits c.1 in
      let made = item_fits (is_tag_of tag) n p i (contents b c.0) (λ m. FieldsFit b m c.0) h same inside.0 inside.1 in
      let P : ℕ → Type 0 = λ k. Takes p (tlv k (contents b c.0)) i.after × FitsIn k n (contents b c.0) (λ m. FieldsFit b m c.0) in
      let Q : FieldsOf b × Spot → Type 0 = λ y. Takes p (tlv tag (contents b y.0)) y.1 × Fits (node tag b) n y.0 in
      subst Q (ok_is (c.0, i.after) x c.2) (subst P t made)
  read_takes (tagged tags f) n p x same fits e =
      let k : Item → Result (ValueOf (tagged tags f) × Spot) Der = λ i. read_fields (f i.tag) p.place (within i) >>= λ v. Ok ((i.tag, v), i.after) in
      let a = bind_ok (item_at (is_among (Some tags)) p) k x e in
      let i : Item = a.0 in
      let h = item_takes (is_among (Some tags)) p i fits a.1 in
      let last : FieldsOf (f i.tag) → Result (ValueOf (tagged tags f) × Spot) Der = λ v. Ok ((i.tag, v), i.after) in
      let c = bind_ok (read_fields (f i.tag) p.place (within i)) last x a.2 in
      let m : ℕ = inner i.tag (n - 1) in
      let inside = fields_take (f i.tag) m p.place (within i) c.0 (within_levels (is_among (Some tags)) n p i h same) h.inside_fits c.1 in
      let made = item_fits (is_among (Some tags)) n p i (contents (f i.tag) c.0) (λ m. FieldsFit (f i.tag) m c.0) h same inside.0 inside.1 in
      let Q : ValueOf (tagged tags f) × Spot → Type 0 = λ y. Takes p (spelling (tagged tags f) y.0) y.1 × Fits (tagged tags f) n y.0 in
      let gave : ValueOf (tagged tags f) × Spot = ((i.tag, c.0), i.after) in
      subst Q (ok_is gave x c.2) (made.0, (h.is_allowed, made.1))
  read_takes (whole tags) n p x same fits e =
      let h = whole_takes p.levels tags p x refl fits e in
      (h.0, (subst (λ (k : ℕ). WellFormed k x.0) same h.1.0, h.1.1))
  read_takes (raw s) n p x same fits e =
      let r = bind_ok (read s p) (λ y. Ok (taken p y.1, y.1)) x e in
      let t = read_takes s n p r.0 same fits r.1 in
      let text : taken p r.0.1 ≡ spelling s r.0.0 = taken_text p r.0.1 (spelling s r.0.0) t.0.octets in
      let Q : List ℕ × Spot → Type 0 = λ y. Takes p y.0 y.1 × ((w : ValueOf s) × (y.0 ≡ spelling s w) × Fits s n w) in
      subst Q (ok_is (taken p r.0.1, r.0.1) x r.2) (subst (λ (k : List ℕ). Takes p k r.0.1) (sym text) t.0, (r.0.0, text, t.1))
  read_takes (such test s) n p x same fits e =
      let r = bind_ok (read s p) (λ y. cond (test (taken p y.1)) (Ok y) (refuse p.place Value)) x e in
      let g = allowed (test (taken p r.0.1)) _ (Ok r.0) x r.2 in
      let t = read_takes s n p r.0 same fits r.1 in
      let text : taken p r.0.1 ≡ spelling s r.0.0 = taken_text p r.0.1 (spelling s r.0.0) t.0.octets in
      let Q : ValueOf s × Spot → Type 0 = λ y. Takes p (spelling s y.0) y.1 × Fits (such test s) n y.0 in
      subst Q (ok_is r.0 x g.1) (t.0, (t.1, ap test (sym text) ∙ g.0))
  read_takes (choice a b) n p x same fits e =
      let P : (ValueOf a ⊎ ValueOf b) × Spot → Type 0 = λ y. Takes p (spelling (choice a b) y.0) y.1 × Fits (choice a b) n y.0 in
      elim (chosen (starts_list (starts a) p.rest) _ _ (Ok x) e) [
        | inl h ↦
            let r = bind_ok (read a p) (λ y. Ok (inl y.0, y.1)) x h.1 in
            let made : (ValueOf a ⊎ ValueOf b) × Spot = (inl r.0.0, r.0.1) in
            subst P (ok_is made x r.2) (read_takes a n p r.0 same fits r.1)
        | inr h ↦
            let r = bind_ok (read b p) (λ y. Ok (inr y.0, y.1)) x h.1 in
            let made : (ValueOf a ⊎ ValueOf b) × Spot = (inr r.0.0, r.0.1) in
            subst P (ok_is made x r.2) (read_takes b n p r.0 same fits r.1)
      ]

  -- and so does that of contents
  pub fields_take : (b : Body) (n own : ℕ) (p : Spot) (v : FieldsOf b) → p.levels ≡ n → IsBytes p.rest → read_fields b own p ≡ Ok v → (p.rest ≡ contents b v) × FieldsFit b n v
  fields_take (plain rule) n own p v same fits e =
      let g = allowed (rule p.rest) _ (Ok p.rest) v e in
      let P : List ℕ → Type 0 = λ y. (p.rest ≡ y) × IsTrue (rule y) in
      subst P (ok_is p.rest v g.1) (refl, g.0)
  fields_take (unsigned rule) n own p v same fits e =
      let g = allowed (is_number rule p.rest) _ (Ok (number_from_digits 256 p.rest)) v e in
      let g1 = and_parts (is_integer p.rest && ltb (first_or p.rest) 128) (rule (number_from_digits 256 p.rest)) g.0 in
      let g2 = and_parts (is_integer p.rest) (ltb (first_or p.rest) 128) g1.0 in
      let back : integer_octets (number_from_digits 256 p.rest) ≡ p.rest = number_back p.rest fits g2.0 (ltb-true _ _ g2.1) in
      let P : ℕ → Type 0 = λ y. (p.rest ≡ integer_octets y) × IsTrue (rule y) in
      subst P (ok_is (number_from_digits 256 p.rest) v g.1) (sym back, g1.1)
  fields_take (kept b) n own p v same fits e =
      let c = bind_ok (read_fields b own p) (λ _. Ok p.rest) v e in
      let inside = fields_take b n own p c.0 same fits c.1 in
      let P : List ℕ → Type 0 = λ y. (p.rest ≡ y) × ((w : FieldsOf b) × (y ≡ contents b w) × FieldsFit b n w) in
      subst P (ok_is p.rest v c.2) (refl, (c.0, inside.0, inside.1))
  fields_take done n own p v same fits e =
      let g = allowed (eqb (length p.rest) 0) _ (Ok tt) v e in
      (nil_from_length p.rest (eqb-true _ _ g.0), tt)
  fields_take (field s b) n own p v same fits e =
      let a = bind_ok (read s p) (λ x. read_fields b own x.1 >>= λ w. Ok (x.0, w)) v e in
      let c = bind_ok (read_fields b own a.0.1) (λ w. Ok (a.0.0, w)) v a.2 in
      let one = read_takes s n p a.0 same fits a.1 in
      let more = fields_take b n own a.0.1 c.0 (one.0.levels ∙ same) one.0.fits c.1 in
      let P : ValueOf s × FieldsOf b → Type 0 = λ y. (p.rest ≡ contents (field s b) y) × FieldsFit (field s b) n y in
      let made : ValueOf s × FieldsOf b = (a.0.0, c.0) in
      subst P (ok_is made v c.2) (one.0.octets ∙ ap (λ (r : List ℕ). spelling s a.0.0 ++ r) more.0, (one.1, more.1))
  fields_take (optional s b) n own p v same fits e =
      let r : Result (Option (ValueOf s) × Spot) Der = maybe_at (starts_list (starts s) p.rest) p (read s p) in
      let a = bind_ok r (λ x. read_fields b own x.1 >>= λ w. Ok (x.0, w)) v e in
      let c = bind_ok (read_fields b own a.0.1) (λ w. Ok (a.0.0, w)) v a.2 in
      let one = maybe_takes (spelling s) (Fits s n) (starts_list (starts s) p.rest) p (read s p) a.0 fits (λ x h. read_takes s n p x same fits h) a.1 in
      let more = fields_take b n own a.0.1 c.0 (one.1 ∙ same) one.2 c.1 in
      let P : Option (ValueOf s) × FieldsOf b → Type 0 = λ y. (p.rest ≡ contents (optional s b) y) × FieldsFit (optional s b) n y in
      let made : Option (ValueOf s) × FieldsOf b = (a.0.0, c.0) in
      subst P (ok_is made v c.2) (one.0 ∙ ap (λ (r : List ℕ). spelled_if (spelling s) a.0.0 ++ r) more.0, (one.3, more.1))
  fields_take (keyed tag rule keys f) n own p v same fits e =
      let k : List ℕ × Spot → Result (FieldsOf (keyed tag rule keys f)) Der = λ x. read_fields (f (key_place keys x.0)) own x.1 >>= λ w. Ok (x.0, w) in
      let a = bind_ok (primitive_at tag rule p) k v e in
      let b : Body = f (key_place keys a.0.0) in
      let last : FieldsOf b → Result (FieldsOf (keyed tag rule keys f)) Der = λ w. Ok (a.0.0, w) in
      let c = bind_ok (read_fields b own a.0.1) last v a.2 in
      let one = primitive_takes tag rule n p a.0 same fits a.1 in
      let more = fields_take (f (key_place keys a.0.0)) n own a.0.1 c.0 (one.0.levels ∙ same) one.0.fits c.1 in
      let P : FieldsOf (keyed tag rule keys f) → Type 0 = λ y. (p.rest ≡ contents (keyed tag rule keys f) y) × FieldsFit (keyed tag rule keys f) n y in
      let made : FieldsOf (keyed tag rule keys f) = (a.0.0, c.0) in
      subst P (ok_is made v c.2) (one.0.octets ∙ ap (λ (r : List ℕ). tlv tag a.0.0 ++ r) more.0, (one.1, more.1))
  fields_take (sequence_of some s) n own p v same fits e =
      let g = passed (some && eqb (length p.rest) 0) _ (all_at (read s) (length p.rest) p) v e in
      let h = all_takes n (spelling s) (Fits s n) (read s) (read_takes s n) (length p.rest) p v (omega arith) same fits g.1 in
      let nonempty : IsTrue some → v ≢ [] = λ t q.
      (let nothing : p.rest ≡ [] = h.0 ∙ ap (flat_map (spelling s)) q in
      both_ways (some && eqb (length p.rest) 0) g.0 (rw (t, nothing) refl)) in
      (h.0, (nonempty, h.1))
  fields_take (set_of some s) n own p v same fits e =
      let g = passed (some && eqb (length p.rest) 0) _ (all_at (read s) (length p.rest) p >>= λ xs. order_at p.place (map (spelling s) xs) >>= λ _. Ok xs) v e in
      let a = bind_ok (all_at (read s) (length p.rest) p) (λ xs. order_at p.place (map (spelling s) xs) >>= λ _. Ok xs) v g.1 in
      let b = bind_ok (order_at p.place (map (spelling s) a.0)) (λ _. Ok a.0) v a.2 in
      let h = all_takes n (spelling s) (Fits s n) (read s) (read_takes s n) (length p.rest) p a.0 (omega arith) same fits a.1 in
      let nonempty : IsTrue some → a.0 ≢ [] = λ t q.
      (let nothing : p.rest ≡ [] = h.0 ∙ ap (flat_map (spelling s)) q in
      both_ways (some && eqb (length p.rest) 0) g.0 (rw (t, nothing) refl)) in
      let P : List (ValueOf s) → Type 0 = λ y. (p.rest ≡ contents (set_of some s) y) × FieldsFit (set_of some s) n y in
      subst P (ok_is a.0 v b.2) (h.0, (nonempty, h.1, orders_take p.place (map (spelling s) a.0) b.0 b.1))
  fields_take (distinct_of some key tag b also) n own p v same fits e =
      let g = passed (some && eqb (length p.rest) 0) _ (distinct_at key tag (read_fields b) (read_fields also) (length p.rest) [] p) v e in
      let first : (n own : ℕ) (p : Spot) (v : FieldsOf b) → p.levels ≡ n → IsBytes p.rest → read_fields b own p ≡ Ok v → (p.rest ≡ contents b v) × FieldsFit b n v = λ n own p v same fits e. fields_take b n own p v same fits e in
      let second : (n own : ℕ) (p : Spot) (v : FieldsOf also) → p.levels ≡ n → IsBytes p.rest → read_fields also own p ≡ Ok v → (p.rest ≡ contents also v) × FieldsFit also n v = λ n own p v same fits e. fields_take also n own p v same fits e in
      let h = distinct_takes key tag n (contents b) (FieldsFit b) (read_fields b) (contents also) (FieldsFit also) (read_fields also) first second
      (length p.rest) [] p v (omega arith) same fits g.1 in
      let nonempty : IsTrue some → v ≢ [] = λ t q.
      (let nothing : p.rest ≡ [] = h.0 ∙ ap (flat_map (λ x. tlv tag (contents b x))) q in
      both_ways (some && eqb (length p.rest) 0) g.0 (rw (t, nothing) refl)) in
      (h.0, (nonempty, h.1, h.2))

-- what is read is spelled so
pub takes : (s : Schema) (p : Spot) (x : ValueOf s × Spot) → IsBytes p.rest → read s p ≡ Ok x → Takes p (spelling s x.0) x.1 × Fits s p.levels x.0
unfolding IsReader
takes s p x fits e = read_takes s p.levels p x refl fits e
