-- A refusal has its place among the octets that were read, or at their end.
use Rattle.std.proofs.Common.{◌≡◌, ◌⊎◌, ℕ, zero, suc, ◌+◌, ◌-◌, ◌/◌, ◌%◌, ◌≤◌, ◌||◌, ◌&&◌, not, Bool, true, false, cond, eqb, ltb, Option, Some, None, Result, Ok, Err, List, [], ◌∷◌, ◌++◌, length, map, take, refl, sym, ap, subst, ◌∙◌, inl, inr, arith}
use Rattle.std.specs.Int.Digits.{number_from_digits}
use Rattle.std.specs.List.{flat_map, concat}
use Rattle.std.proofs.lemmas.List.{length-append}
use Rattle.std.proofs.lemmas.List.Concat.{flat_map-cons}
use Rattle.dv_schema.specs.declared.refusal.Der.{Der}
use Rattle.dv_schema.specs.declared.refusal.Why.{Why}
use Rattle.dv_schema.specs.declared.refusal.Why.TheVariants.{End, Tag, Length, Value, Order, Trailing, Depth}
use Rattle.dv_schema.specs.Octets.{IsBytes, is_less, is_one_of}
use Rattle.dv_schema.specs.Rules.{first_or, is_allowed, is_number}
use Rattle.dv_schema.specs.Schema.{Schema, node, tagged, whole, raw, such, choice, Body, plain, unsigned, kept, done, field, optional, keyed, sequence_of, set_of, distinct_of, ValueOf, FieldsOf, spelling, starts, is_among, key_place}
use Rattle.dv_schema.specs.Tlv.{tlv, length_octets}
use Rattle.dv_schema.specs.Fits.{Fits, is_tag}
use Rattle.dv_schema.specs.Reading.{Spot, Item, ◌>>=◌, refuse, length_at, sized_at, sizes_at, tagged_at, item_at, all_at, whole_at, taken, order_at, order_after, read, read_fields, read_all, starts_list, maybe_at, is_tag_of, within, primitive_at, distinct_at}
use Rattle.dv_schema.proofs.Items.{item_takes}
use Rattle.dv_schema.proofs.Takes.{Takes, takes, read_takes, all_takes}
use Rattle.dv_schema.proofs.Tools.{bind_ok, ok_is, allowed, chosen}

-- a refusal has a place up to this one
record UpTo {A : Type 0} (limit : ℕ) (r : Result A Der) : Type 0 where
  place : (d : Der) → r ≡ Err d → d.place ≤ limit

-- an answer refuses nothing
ok_up : {A : Type 0} (limit : ℕ) (x : A) → UpTo limit (Ok x)
ok_up limit x = record { place = λ d e. absurd cc }

-- a refusal at a place
refuse_up : {A : Type 0} (limit place : ℕ) (why : Why) → place ≤ limit → UpTo {A = A} limit (refuse place why)
refuse_up limit place why le = record { place = λ d e. (let same : record { place = place; why = why } ≡ d = cc in subst (λ (x : Der). x.place ≤ limit) same le) }

-- one of two
cond_up : {A : Type 0} (limit : ℕ) (b : Bool) (x y : Result A Der) → UpTo limit x → UpTo limit y → UpTo limit (cond b x y)
cond_up limit true x y h k = h
cond_up limit false x y h k = k

-- one step after another
bind_up : {A B : Type 0} (limit : ℕ) (r : Result A Der) (f : A → Result B Der) → UpTo limit r → ((x : A) → r ≡ Ok x → UpTo limit (f x)) → UpTo limit (r >>= f)
bind_up limit (Ok x) f h k = k x refl
bind_up limit (Err c) f h k = refuse_up limit c.place c.why (h.place c refl)

-- a spot further on, with the same end
record FurtherOn (p q : Spot) : Type 0 where
  fits : IsBytes q.rest
  same : q.place + length q.rest ≡ p.place + length p.rest

-- a reader of one value refuses up to the end
abbrev UpReader : {A : Type 0} → (Spot → Result (A × Spot) Der) → Type 0
UpReader f = (p : Spot) (limit : ℕ) → IsBytes p.rest → p.place + length p.rest ≤ limit → UpTo limit (f p)

-- and goes on to the same end
abbrev OnReader : {A : Type 0} → (Spot → Result (A × Spot) Der) → Type 0
OnReader {A} f = (p : Spot) (x : A × Spot) → IsBytes p.rest → f p ≡ Ok x → FurtherOn p x.1

-- a reader of contents refuses at their value, or up to the end
abbrev UpContents : {A : Type 0} → (ℕ → Spot → Result A Der) → Type 0
UpContents f = (own : ℕ) (p : Spot) (limit : ℕ) → own ≤ limit → IsBytes p.rest → p.place + length p.rest ≤ limit → UpTo limit (f own p)

-- ---- one value

-- a length
length_up : (place limit : ℕ) (more : List ℕ) → place ≤ limit → UpTo limit (length_at place more)
length_up place limit [] le = refuse_up limit place End le
length_up place limit (first ∷ more) le =
    cond_up limit (ltb first 128) _ _ (ok_up limit (first, 1))
    (cond_up limit (eqb first 128 || ltb 136 first) _ _ (refuse_up limit place Length le)
    (cond_up limit (ltb (length more) (first - 128)) _ _ (refuse_up limit place End le)
    (cond_up limit (eqb (first_or more) 0 || ltb (number_from_digits 256 (take (first - 128) more)) 128) _ _ (refuse_up limit place Length le)
    (ok_up limit (number_from_digits 256 (take (first - 128) more), 1 + (first - 128))))))

-- a value behind its tag
sizes_up : (p : Spot) (limit tag : ℕ) (more : List ℕ) → p.place ≤ limit → UpTo limit (sizes_at p tag more)
sizes_up p limit tag more le =
    bind_up limit (length_at p.place more) (λ n. sized_at p tag more n) (length_up p.place limit more le)
    (λ n _. cond_up limit (ltb (length more) (n.1 + n.0)) _ _ (refuse_up limit p.place End le)
    (cond_up limit (eqb p.levels 0) _ _ (refuse_up limit p.place Depth le) (ok_up limit _)))

-- a value with its tag
tagged_up : (f : ℕ → Bool) (p : Spot) (limit : ℕ) (octets : List ℕ) → p.place ≤ limit → UpTo limit (tagged_at f p octets)
tagged_up f p limit [] le = refuse_up limit p.place End le
tagged_up f p limit (tag ∷ more) le = cond_up limit (not (f tag) || eqb (tag % 32) 31) _ _ (refuse_up limit p.place Tag le) (sizes_up p limit tag more le)

item_up : (f : ℕ → Bool) (p : Spot) (limit : ℕ) → p.place ≤ limit → UpTo limit (item_at f p)
unfolding item_at
item_up f p limit le = tagged_up f p limit p.rest le

-- what lies in a value, and behind it
record IsInside (p : Spot) (i : Item) : Type 0 where
  fits : IsBytes i.inside.rest
  low : i.inside.place + length i.inside.rest ≤ p.place + length p.rest
  after : FurtherOn p i.after

inside_of : (f : ℕ → Bool) (p : Spot) (i : Item) → IsBytes p.rest → item_at f p ≡ Ok i → IsInside p i
inside_of f p i bytes e =
    let h = item_takes f p i bytes e in
    let n : length p.rest ≡ length (tlv i.tag i.inside.rest ++ i.after.rest) = ap length h.octets in
    let m = length-append (tlv i.tag i.inside.rest) i.after.rest in
    let k = length-append (length_octets (length i.inside.rest)) i.inside.rest in
    record {
      fits = h.inside_fits;
      low = omega (arith, n, m, k, h.inside_place);
      after = record { fits = h.after_fits; same = omega (arith, n, m, h.after_place) };
    }

-- what was taken leaves the same end
taken_on : (p q : Spot) (text : List ℕ) → Takes p text q → FurtherOn p q
taken_on p q text t = record { fits = t.fits; same = omega (arith, t.place, ap length t.octets, length-append text q.rest) }

-- ---- values one after another

all_up : {A : Type 0} (f : Spot → Result (A × Spot) Der) → UpReader f → OnReader f → (fuel : ℕ) (p : Spot) (limit : ℕ) → IsBytes p.rest → p.place + length p.rest ≤ limit → UpTo limit (all_at f fuel p)
unfolding all_at
all_up f up on zero p limit bytes le = ok_up limit []
all_up {A} f up on (suc fuel) p limit bytes le =
    cond_up limit (eqb (length p.rest) 0) _ _ (ok_up limit [])
    (bind_up limit (f p) (λ x. all_at f fuel x.1 >>= λ xs. Ok (x.0 ∷ xs)) (up p limit bytes le)
    (λ x e. (let o = on p x bytes e in bind_up limit (all_at f fuel x.1) (λ xs. Ok (x.0 ∷ xs)) (all_up f up on fuel x.1 limit o.fits (omega (arith, o.same))) (λ xs _. ok_up limit (x.0 ∷ xs)))))

-- their order
order_after_up : (place limit : ℕ) (x : List ℕ) (ys : List (List ℕ)) → place + length (concat ys) ≤ limit → UpTo limit (order_after place x ys)
order_after_up place limit x [] le = ok_up limit tt
order_after_up place limit x (y ∷ ys) le =
    let n = length-append y (concat ys) in
    cond_up limit (is_less y x) _ _ (refuse_up limit place Order (omega arith)) (order_after_up (place + length y) limit y ys (omega (arith, n)))

order_up : (place limit : ℕ) (xs : List (List ℕ)) → place + length (concat xs) ≤ limit → UpTo limit (order_at place xs)
order_up place limit [] le = ok_up limit tt
order_up place limit (x ∷ xs) le = let n = length-append x (concat xs) in order_after_up (place + length x) limit x xs (omega (arith, n))

concat_map : {A : Type 0} (f : A → List ℕ) (xs : List A) → flat_map f xs ≡ concat (map f xs)
concat_map f [] = refl
concat_map f (x ∷ xs) = flat_map-cons f x xs ∙ ap (λ (r : List ℕ). f x ++ r) (concat_map f xs)

-- members without repetitions
distinct_up : {A B : Type 0} (key : List ℕ → List ℕ) (tag : ℕ) (f : ℕ → Spot → Result A Der) (g : ℕ → Spot → Result B Der) → UpContents f → UpContents g
    → (fuel : ℕ) (seen : List (List ℕ)) (p : Spot) (limit : ℕ) → IsBytes p.rest → p.place + length p.rest ≤ limit → UpTo limit (distinct_at key tag f g fuel seen p)
unfolding distinct_at
distinct_up key tag f g up up' zero seen p limit bytes le = ok_up limit []
distinct_up {A} {B} key tag f g up up' (suc fuel) seen p limit bytes le =
    let own : p.place ≤ limit = omega arith in
    let again : Item → A → Result (List A) Der = λ i v. g p.place (within i) >>= λ _. distinct_at key tag f g fuel (key i.inside.rest ∷ seen) i.after >>= λ vs. Ok (v ∷ vs) in
    let more : Item → A → Result (List A) Der = λ i v. cond (is_one_of seen (key i.inside.rest)) (refuse p.place Value) (again i v) in
    cond_up limit (eqb (length p.rest) 0) _ _ (ok_up limit [])
    (bind_up limit (item_at (is_tag_of tag) p) (λ i. f p.place (within i) >>= λ v. more i v) (item_up (is_tag_of tag) p limit own)
    (λ i e. (let h = inside_of (is_tag_of tag) p i bytes e in
    bind_up limit (f p.place (within i)) (more i) (up p.place (within i) limit own h.fits (omega (arith, h.low)))
    (λ v _. cond_up limit (is_one_of seen (key i.inside.rest)) (refuse p.place Value) (again i v) (refuse_up limit p.place Value own)
    (bind_up limit (g p.place (within i)) (λ _. distinct_at key tag f g fuel (key i.inside.rest ∷ seen) i.after >>= λ vs. Ok (v ∷ vs)) (up' p.place (within i) limit own h.fits (omega (arith, h.low)))
    (λ _ _. bind_up limit (distinct_at key tag f g fuel (key i.inside.rest ∷ seen) i.after) (λ vs. Ok (v ∷ vs))
    (distinct_up key tag f g up up' fuel (key i.inside.rest ∷ seen) i.after limit h.after.fits (omega (arith, h.after.same))) (λ vs _. ok_up limit (v ∷ vs))))))))

-- ---- a value of any type

whole_on : (n : ℕ) (tags : Option (List ℕ)) → OnReader (whole_at tags n)
unfolding whole_at
whole_on zero tags p x bytes e = let a = bind_ok (item_at (is_tag tags) p) (λ (i : Item). refuse {A = List ℕ × Spot} p.place Depth) x e in let no = a.2 in absurd cc
whole_on (suc n) tags p x bytes e =
    let gave : Item → List ℕ × Spot = λ i. (taken p i.after, i.after) in
    let inner : Item → Result (List ℕ × Spot) Der = λ i. all_at (whole_at None n) (length i.inside.rest) i.inside >>= λ parts. Ok (gave i) in
    let a = bind_ok (item_at (is_tag tags) p) (λ i. cond (eqb (i.tag / 32 % 2) 1) (inner i) (cond (is_allowed i.tag i.inside.rest) (Ok (gave i)) (refuse p.place Value))) x e in
    let i : Item = a.0 in
    let h = inside_of (is_tag tags) p i bytes a.1 in
    let P : List ℕ × Spot → Type 0 = λ y. FurtherOn p y.1 in
    elim (chosen (eqb (i.tag / 32 % 2) 1) _ _ (Ok x) a.2) [
      | inl r ↦ let b = bind_ok (all_at (whole_at None n) (length i.inside.rest) i.inside) (λ (parts : List (List ℕ)). Ok (gave i)) x r.1 in subst P (ok_is (gave i) x b.2) h.after
      | inr r ↦ let g = allowed (is_allowed i.tag i.inside.rest) _ (Ok (gave i)) x r.1 in subst P (ok_is (gave i) x g.1) h.after
    ]

whole_up : (n : ℕ) (tags : Option (List ℕ)) → UpReader (whole_at tags n)
unfolding whole_at
whole_up zero tags p limit bytes le =
    bind_up limit (item_at (is_tag tags) p) (λ i. refuse p.place Depth) (item_up (is_tag tags) p limit (omega arith)) (λ i e. refuse_up limit p.place Depth (omega arith))
whole_up (suc n) tags p limit bytes le =
    let own : p.place ≤ limit = omega arith in
    let gave : Item → List ℕ × Spot = λ i. (taken p i.after, i.after) in
    let inner : Item → Result (List ℕ × Spot) Der = λ i. all_at (whole_at None n) (length i.inside.rest) i.inside >>= λ parts. Ok (gave i) in
    let leaf : Item → Result (List ℕ × Spot) Der = λ i. cond (is_allowed i.tag i.inside.rest) (Ok (gave i)) (refuse p.place Value) in
    bind_up limit (item_at (is_tag tags) p) (λ i. cond (eqb (i.tag / 32 % 2) 1) (inner i) (leaf i)) (item_up (is_tag tags) p limit own)
    (λ i e. (let h = inside_of (is_tag tags) p i bytes e in
    cond_up limit (eqb (i.tag / 32 % 2) 1) (inner i) (leaf i)
    (bind_up limit (all_at (whole_at None n) (length i.inside.rest) i.inside) (λ parts. Ok (gave i))
    (all_up (whole_at None n) (whole_up n None) (whole_on n None) (length i.inside.rest) i.inside limit h.fits (omega (arith, h.low))) (λ parts _. ok_up limit (gave i)))
    (cond_up limit (is_allowed i.tag i.inside.rest) (Ok (gave i)) (refuse p.place Value) (ok_up limit (gave i)) (refuse_up limit p.place Value own))))

-- ---- a value of a schema

-- a primitive value
primitive_up : (tag : ℕ) (rule : List ℕ → Bool) → UpReader (primitive_at tag rule)
primitive_up tag rule p limit bytes le =
    let own : p.place ≤ limit = omega arith in
    let test : Item → Result (List ℕ) Der = λ i. cond (rule i.inside.rest) (Ok i.inside.rest) (refuse p.place Value) in
    bind_up limit (item_at (is_tag_of tag) p) (λ i. test i >>= λ c. Ok (c, i.after)) (item_up (is_tag_of tag) p limit own)
    (λ i e. bind_up limit (test i) (λ c. Ok (c, i.after)) (cond_up limit (rule i.inside.rest) (Ok i.inside.rest) (refuse p.place Value) (ok_up limit i.inside.rest) (refuse_up limit p.place Value own)) (λ c _. ok_up limit (c, i.after)))

primitive_on : (tag : ℕ) (rule : List ℕ → Bool) → OnReader (primitive_at tag rule)
primitive_on tag rule p x bytes e =
    let test : Item → Result (List ℕ) Der = λ i. cond (rule i.inside.rest) (Ok i.inside.rest) (refuse p.place Value) in
    let a = bind_ok (item_at (is_tag_of tag) p) (λ i. test i >>= λ c. Ok (c, i.after)) x e in
    let b = bind_ok (test a.0) (λ (c : List ℕ). Ok (c, a.0.after)) x a.2 in
    let h = inside_of (is_tag_of tag) p a.0 bytes a.1 in
    let gave : List ℕ × Spot = (b.0, a.0.after) in
    subst (λ (y : List ℕ × Spot). FurtherOn p y.1) (ok_is gave x b.2) h.after

read_on : (s : Schema) → OnReader (read s)
read_on s p x bytes e = taken_on p x.1 (spelling s x.0) (takes s p x bytes e).0

-- the members of a set are all that is left
members_length : (s : Schema) (p : Spot) (xs : List (ValueOf s)) → IsBytes p.rest → all_at (read s) (length p.rest) p ≡ Ok xs → length (concat (map (spelling s) xs)) ≡ length p.rest
members_length s p xs bytes e =
    let h = all_takes p.levels (spelling s) (Fits s p.levels) (read s) (read_takes s p.levels) (length p.rest) p xs (omega arith) refl bytes e in
    sym (ap length (h.0 ∙ concat_map (spelling s) xs))

-- a field that may be absent
maybe_up : {A : Type 0} (limit : ℕ) (b : Bool) (p : Spot) (r : Result (A × Spot) Der) → UpTo limit r → UpTo limit (maybe_at b p r)
maybe_up limit false p r h = ok_up limit (None, p)
maybe_up limit true p r h = bind_up limit r (λ x. Ok (Some x.0, x.1)) h (λ x _. ok_up limit (Some x.0, x.1))

maybe_on : {A : Type 0} (b : Bool) (p : Spot) (r : Result (A × Spot) Der) (o : Option A × Spot) → IsBytes p.rest → ((x : A × Spot) → r ≡ Ok x → FurtherOn p x.1) → maybe_at b p r ≡ Ok o → FurtherOn p o.1
maybe_on {A} false p r o bytes on e =
    let none : Option A × Spot = (None, p) in
    subst (λ (y : Option A × Spot). FurtherOn p y.1) (ok_is none o e) (record { fits = bytes; same = refl })
maybe_on {A} true p r o bytes on e =
    let a = bind_ok r (λ x. Ok (Some x.0, x.1)) o e in
    let gave : Option A × Spot = (Some a.0.0, a.0.1) in
    subst (λ (y : Option A × Spot). FurtherOn p y.1) (ok_is gave o a.2) (on a.0 a.1)

mutual
  unfolding read

  read_up : (s : Schema) → UpReader (read s)
  read_up (node tag b) p limit bytes le =
      let own : p.place ≤ limit = omega arith in
      bind_up limit (item_at (is_tag_of tag) p) (λ i. read_fields b p.place (within i) >>= λ v. Ok (v, i.after)) (item_up (is_tag_of tag) p limit own)
      (λ i e. (let h = inside_of (is_tag_of tag) p i bytes e in
      bind_up limit (read_fields b p.place (within i)) (λ v. Ok (v, i.after)) (fields_up b p.place (within i) limit own h.fits (omega (arith, h.low))) (λ v _. ok_up limit (v, i.after))))
  read_up (tagged tags f) p limit bytes le =
      let own : p.place ≤ limit = omega arith in
      let last : (i : Item) → FieldsOf (f i.tag) → Result (ValueOf (tagged tags f) × Spot) Der = λ i v. Ok ((i.tag, v), i.after) in
      bind_up limit (item_at (is_among (Some tags)) p) (λ i. read_fields (f i.tag) p.place (within i) >>= last i) (item_up (is_among (Some tags)) p limit own)
      (λ i e. (let h = inside_of (is_among (Some tags)) p i bytes e in
      bind_up limit (read_fields (f i.tag) p.place (within i)) (last i) (fields_up (f i.tag) p.place (within i) limit own h.fits (omega (arith, h.low))) (λ v _. ok_up limit ((i.tag, v), i.after))))
  read_up (whole tags) p limit bytes le = whole_up p.levels tags p limit bytes le
  read_up (raw s) p limit bytes le = bind_up limit (read s p) (λ x. Ok (taken p x.1, x.1)) (read_up s p limit bytes le) (λ x _. ok_up limit (taken p x.1, x.1))
  read_up (such test s) p limit bytes le =
      bind_up limit (read s p) (λ x. cond (test (taken p x.1)) (Ok x) (refuse p.place Value)) (read_up s p limit bytes le)
      (λ x _. cond_up limit (test (taken p x.1)) (Ok x) (refuse p.place Value) (ok_up limit x) (refuse_up limit p.place Value (omega arith)))
  read_up (choice a b) p limit bytes le =
      let left : ValueOf a × Spot → Result ((ValueOf a ⊎ ValueOf b) × Spot) Der = λ x. Ok (inl x.0, x.1) in
      let right : ValueOf b × Spot → Result ((ValueOf a ⊎ ValueOf b) × Spot) Der = λ x. Ok (inr x.0, x.1) in
      cond_up limit (starts_list (starts a) p.rest) (read a p >>= left) (read b p >>= right)
      (bind_up limit (read a p) left (read_up a p limit bytes le) (λ x _. ok_up limit (inl x.0, x.1)))
      (bind_up limit (read b p) right (read_up b p limit bytes le) (λ x _. ok_up limit (inr x.0, x.1)))

  fields_up : (b : Body) → UpContents (read_fields b)
  fields_up (plain rule) own p limit at bytes le = cond_up limit (rule p.rest) (Ok p.rest) (refuse own Value) (ok_up limit p.rest) (refuse_up limit own Value at)
  fields_up (unsigned rule) own p limit at bytes le =
      cond_up limit (is_number rule p.rest) (Ok (number_from_digits 256 p.rest)) (refuse own Value) (ok_up limit (number_from_digits 256 p.rest)) (refuse_up limit own Value at)
  fields_up (kept b) own p limit at bytes le = bind_up limit (read_fields b own p) (λ _. Ok p.rest) (fields_up b own p limit at bytes le) (λ _ _. ok_up limit p.rest)
  fields_up done own p limit at bytes le = cond_up limit (eqb (length p.rest) 0) (Ok tt) (refuse p.place Trailing) (ok_up limit tt) (refuse_up limit p.place Trailing (omega arith))
  fields_up (field s b) own p limit at bytes le =
      bind_up limit (read s p) (λ x. read_fields b own x.1 >>= λ w. Ok (x.0, w)) (read_up s p limit bytes le)
      (λ x e. (let o = read_on s p x bytes e in
      bind_up limit (read_fields b own x.1) (λ w. Ok (x.0, w)) (fields_up b own x.1 limit at o.fits (omega (arith, o.same))) (λ w _. ok_up limit (x.0, w))))
  fields_up (optional s b) own p limit at bytes le =
      let there : Bool = starts_list (starts s) p.rest in
      bind_up limit (maybe_at there p (read s p)) (λ x. read_fields b own x.1 >>= λ w. Ok (x.0, w)) (maybe_up limit there p (read s p) (read_up s p limit bytes le))
      (λ x e. (let o = maybe_on there p (read s p) x bytes (λ y f. read_on s p y bytes f) e in
      bind_up limit (read_fields b own x.1) (λ w. Ok (x.0, w)) (fields_up b own x.1 limit at o.fits (omega (arith, o.same))) (λ w _. ok_up limit (x.0, w))))
  fields_up (keyed tag rule keys f) own p limit at bytes le =
      let last : (x : List ℕ × Spot) → FieldsOf (f (key_place keys x.0)) → Result (FieldsOf (keyed tag rule keys f)) Der = λ x w. Ok (x.0, w) in
      bind_up limit (primitive_at tag rule p) (λ x. read_fields (f (key_place keys x.0)) own x.1 >>= last x) (primitive_up tag rule p limit bytes le)
      (λ x e. (let o = primitive_on tag rule p x bytes e in
      bind_up limit (read_fields (f (key_place keys x.0)) own x.1) (last x) (fields_up (f (key_place keys x.0)) own x.1 limit at o.fits (omega (arith, o.same))) (λ w _. ok_up limit (x.0, w))))
  fields_up (sequence_of some s) own p limit at bytes le =
      cond_up limit (some && eqb (length p.rest) 0) (refuse own Value) (all_at (read s) (length p.rest) p) (refuse_up limit own Value at) (all_up (read s) (read_up s) (read_on s) (length p.rest) p limit bytes le)
  fields_up (set_of some s) own p limit at bytes le =
      let last : List (ValueOf s) → Result (List (ValueOf s)) Der = λ xs. order_at p.place (map (spelling s) xs) >>= λ _. Ok xs in
      cond_up limit (some && eqb (length p.rest) 0) (refuse own Value) (all_at (read s) (length p.rest) p >>= last) (refuse_up limit own Value at)
      (bind_up limit (all_at (read s) (length p.rest) p) last (all_up (read s) (read_up s) (read_on s) (length p.rest) p limit bytes le)
      (λ xs e. bind_up limit (order_at p.place (map (spelling s) xs)) (λ _. Ok xs) (order_up p.place limit (map (spelling s) xs) (let n = members_length s p xs bytes e in omega (arith, n))) (λ _ _. ok_up limit xs)))
  fields_up (distinct_of some key tag b also) own p limit at bytes le =
      cond_up limit (some && eqb (length p.rest) 0) (refuse own Value) (distinct_at key tag (read_fields b) (read_fields also) (length p.rest) [] p) (refuse_up limit own Value at)
      (distinct_up key tag (read_fields b) (read_fields also) (fields_up b) (fields_up also) (length p.rest) [] p limit bytes le)

-- what refuses the whole of a slice has its place in the slice, or at its end
pub refused_within : (s : Schema) (p : Spot) (d : Der) → IsBytes p.rest → read_all s p ≡ Err d → d.place ≤ p.place + length p.rest
refused_within s p d bytes e =
    let limit : ℕ = p.place + length p.rest in
    let last : ValueOf s × Spot → Result (ValueOf s) Der = λ x. cond (eqb (length x.1.rest) 0) (Ok x.0) (refuse x.1.place Trailing) in
    let u = bind_up limit (read s p) last (read_up s p limit bytes (omega arith))
    (λ x f. (let o = read_on s p x bytes f in cond_up limit (eqb (length x.1.rest) 0) (Ok x.0) (refuse x.1.place Trailing) (ok_up limit x.0) (refuse_up limit x.1.place Trailing (omega (arith, o.same))))) in
    u.place d e
