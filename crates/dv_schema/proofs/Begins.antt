-- With which tags a spelling begins.
use Rattle.std.proofs.Common.{◌≡◌, ℕ, zero, suc, ◌⊎◌, ◌||◌, not, Bool, true, false, eqb, Option, Some, None, List, [], ◌∷◌, ◌++◌, length, refl, sym, ap, subst, ◌∙◌, inl, inr}
use Rattle.std.specs.List.{flat_map, list_any, list_all}
use Rattle.std.proofs.lemmas.List.Concat.{flat_map-cons}
use Rattle.std.proofs.lemmas.Bool.{both_ways, cases_Bool, eqb-true, and_parts, not-true, or_left, or_right}
use Rattle.std.proofs.Math.Bool.{or-false, or-true}
use Rattle.std.proofs.lemmas.List.Folds.{list_any-append}
use Rattle.dv_schema.specs.Tlv.{length_octets, tlv, integer_octets}
use Rattle.dv_schema.specs.Schema.{Schema, node, tagged, whole, raw, such, choice, Body, plain, unsigned, kept, done, field, optional, keyed, sequence_of, set_of, distinct_of, ValueOf, FieldsOf, spelling, contents, starts, is_among, key_place}
use Rattle.dv_schema.specs.Fits.{Fits, FieldsFit, tag_of}
use Rattle.dv_schema.specs.Clear.{union, tags_of, body_tags, disjoint}
use Rattle.dv_schema.specs.Reading.{starts_list}
use Rattle.dv_schema.proofs.Takes.{same_eqb}

-- a list that begins with one of the tags
pub record Begins (tags : Option (List ℕ)) (text : List ℕ) : Type 0 where
  pub first : ℕ
  pub more : List ℕ
  pub is : text ≡ first ∷ more
  pub among : is_among tags first ≡ true

-- a tag is among both lists together where it is among one of them
pub among_union : (t : ℕ) (x y : Option (List ℕ)) → is_among (union x y) t ≡ (is_among x t || is_among y t)
among_union t None y = refl
among_union t (Some xs) None = sym (or-true (is_among (Some xs) t))
among_union t (Some xs) (Some ys) = list_any-append (λ u. eqb t u) xs ys

-- the tags that start a value are its tags
pub starts_is : (s : Schema) (t : ℕ) → starts s t ≡ is_among (tags_of s) t
starts_is (node tag b) t = sym (or-false (eqb t tag))
starts_is (tagged tags f) t = refl
starts_is (whole tags) t = refl
starts_is (raw s) t = starts_is s t
starts_is (such test s) t = starts_is s t
starts_is (choice a b) t = rw (starts_is a t, starts_is b t) (sym (among_union t (tags_of a) (tags_of b)))

-- what begins with one of some tags begins with one of more
Begins-left : (x y : Option (List ℕ)) (text : List ℕ) → Begins x text → Begins (union x y) text
Begins-left x y text h = record { first = h.first; more = h.more; is = h.is; among = among_union h.first x y ∙ or_left _ _ h.among }

-- the same on the other side
Begins-right : (x y : Option (List ℕ)) (text : List ℕ) → Begins y text → Begins (union x y) text
Begins-right x y text h = record { first = h.first; more = h.more; is = h.is; among = among_union h.first x y ∙ or_right _ _ h.among }

-- what begins so begins so whatever follows
pub Begins-append : (x : Option (List ℕ)) (text rest : List ℕ) → Begins x text → Begins x (text ++ rest)
Begins-append x text rest h = record { first = h.first; more = h.more ++ rest; is = ap (λ (l : List ℕ). l ++ rest) h.is; among = h.among }

-- a value begins with its tag
Begins-tlv : (tag : ℕ) (c : List ℕ) → Begins (Some (tag ∷ [])) (tlv tag c)
Begins-tlv tag c = record { first = tag; more = length_octets (length c) ++ c; is = refl; among = rw (same_eqb tag) refl }

-- a spelling begins with one of the tags of its schema
pub begins : (s : Schema) (n : ℕ) (v : ValueOf s) → Fits s n v → Begins (tags_of s) (spelling s v)
begins (node tag b) n v h = Begins-tlv tag (contents b v)
begins (tagged tags f) n v h = record { first = v.0; more = length_octets (length (contents (f v.0) v.1)) ++ contents (f v.0) v.1; is = refl; among = h.0 }
begins (whole tags) zero v h = absurd h.0
begins (whole tags) (suc n) v h =
    let w = h.0 in
    record { first = w.0; more = length_octets (length w.1) ++ w.1; is = w.2; among = ap (is_among tags) (sym (ap tag_of w.2)) ∙ h.1 }
begins (raw s) n v h = subst (Begins (tags_of s)) (sym h.1) (begins s n h.0 h.2)
begins (such test s) n v h = begins s n v h.0
begins (choice a b) n (inl v) h = Begins-left (tags_of a) (tags_of b) (spelling a v) (begins a n v h)
begins (choice a b) n (inr v) h = Begins-right (tags_of a) (tags_of b) (spelling b v) (begins b n v h)

-- octets are none, or begin with some tag
any_begins : (text : List ℕ) → (text ≡ []) ⊎ Begins None text
any_begins [] = inl refl
any_begins (t ∷ ts) = inr (record { first = t; more = ts; is = refl; among = refl })

-- contents are none, or begin with one of the tags of their schema
pub body_begins : (b : Body) (n : ℕ) (v : FieldsOf b) → FieldsFit b n v → (contents b v ≡ []) ⊎ Begins (body_tags b) (contents b v)
body_begins (plain rule) n v h = any_begins v
body_begins (unsigned rule) n v h = any_begins (integer_octets v)
body_begins (kept b) n v h = elim (body_begins b n h.0 h.2) [ inl e ↦ inl (h.1 ∙ e) | inr k ↦ inr (subst (Begins (body_tags b)) (sym h.1) k) ]
body_begins done n v h = inl refl
body_begins (field s b) n v h = inr (Begins-append (tags_of s) (spelling s v.0) (contents b v.1) (begins s n v.0 h.0))
body_begins (optional s b) n (None, w) h = elim (body_begins b n w h.1) [ inl e ↦ inl e | inr k ↦ inr (Begins-right (tags_of s) (body_tags b) (contents b w) k) ]
body_begins (optional s b) n (Some x, w) h = inr (Begins-left (tags_of s) (body_tags b) (spelling s x ++ contents b w) (Begins-append (tags_of s) (spelling s x) (contents b w) (begins s n x h.0)))
body_begins (keyed tag rule keys f) n v h = inr (Begins-append (Some (tag ∷ [])) (tlv tag v.0) (contents (f (key_place keys v.0)) v.1) (Begins-tlv tag v.0))
body_begins (sequence_of some s) n [] h = inl refl
body_begins (sequence_of some s) n (x ∷ xs) h =
    inr (subst (Begins (tags_of s)) (sym (flat_map-cons (spelling s) x xs)) (Begins-append (tags_of s) (spelling s x) (flat_map (spelling s) xs) (begins s n x h.1.0)))
body_begins (set_of some s) n [] h = inl refl
body_begins (set_of some s) n (x ∷ xs) h =
    inr (subst (Begins (tags_of s)) (sym (flat_map-cons (spelling s) x xs)) (Begins-append (tags_of s) (spelling s x) (flat_map (spelling s) xs) (begins s n x h.1.0)))
body_begins (distinct_of some key tag b also) n [] h = inl refl
body_begins (distinct_of some key tag b also) n (x ∷ xs) h =
    inr (Begins-append (Some (tag ∷ [])) (tlv tag (contents b x)) (flat_map (λ y. tlv tag (contents b y)) xs) (Begins-tlv tag (contents b x)))

-- no tag is in a list and among others that the list is apart from
not_both : (xs : List ℕ) (y : Option (List ℕ)) (t : ℕ) → list_all (λ u. not (is_among y u)) xs ≡ true → list_any (λ u. eqb t u) xs ≡ true → is_among y t ≡ true → ⊥
not_both [] y t all any other = absurd cc
not_both (x ∷ xs) y t all any other =
    let p = and_parts (not (is_among y x)) (list_all (λ u. not (is_among y u)) xs) all in
    elim (cases_Bool (eqb t x)) [
      | inl e ↦ both_ways (is_among y x) (not-true (is_among y x) p.0) (ap (is_among y) (sym (eqb-true t x e)) ∙ other)
      | inr f ↦ not_both xs y t p.1 (ap (λ (b : Bool). b || list_any (λ u. eqb t u) xs) (sym f) ∙ any) other
    ]

-- no tag is among two that are disjoint
pub apart : (x y : Option (List ℕ)) (t : ℕ) → disjoint x y ≡ true → is_among x t ≡ true → is_among y t ≡ true → ⊥
apart None None t d a b = absurd cc
apart None (Some []) t d a b = absurd cc
apart None (Some (y ∷ ys)) t d a b = absurd cc
apart (Some xs) y t d a b = not_both xs y t d a b

-- a field that is present begins so, and one that is absent is told by what follows
pub starts_here : (s : Schema) (text rest : List ℕ) → Begins (tags_of s) text → starts_list (starts s) (text ++ rest) ≡ true
starts_here s text rest h = ap (λ (l : List ℕ). starts_list (starts s) (l ++ rest)) h.is ∙ starts_is s h.first ∙ h.among

-- where the tags are disjoint, a value isn't started by what begins otherwise
pub starts_else : (s : Schema) (y : Option (List ℕ)) (text : List ℕ) → disjoint (tags_of s) y ≡ true → (text ≡ []) ⊎ Begins y text → starts_list (starts s) text ≡ false
starts_else s y text d (inl e) = ap (starts_list (starts s)) e
starts_else s y text d (inr h) =
    elim (cases_Bool (starts s h.first)) [
      | inl t ↦ absurd (apart (tags_of s) y h.first d (sym (starts_is s h.first) ∙ t) h.among)
      | inr f ↦ ap (starts_list (starts s)) h.is ∙ f
    ]
