-- Searching a list for the first element that passes, by index.
use Rattle.std.proofs.Common.{◌≡◌, ◌≤◌, ◌<◌, ◌+◌, ◌∙◌, ℕ, zero, suc, Bool, true, false, cond, Option, Some, None, List, [], ◌∷◌, length, drop, refl, sym, ap, arith}
use Rattle.std.specs.Prelude.{option_map, slice_get}
use Rattle.std.specs.List.{position, position_from}
use Rattle.std.proofs.lemmas.Iterator.Adapters.{position_from-zero}
use Rattle.std.proofs.lemmas.Option.{slice_get-get_or}

-- what is left from an index on begins with the element there
left_at : {X : Type 0} (xs : List X) (i : ℕ) (x : X) → slice_get xs i ≡ Some x → drop i xs ≡ x ∷ drop (suc i) xs
left_at [] i x is = absurd cc
left_at (y ∷ ys) zero x is = let same : y ≡ x = cc in ap (λ z. z ∷ ys) same
left_at (y ∷ ys) (suc i) x is = left_at ys i x is

-- and nothing is left from its end on
none_left : {X : Type 0} (xs : List X) (i : ℕ) → length xs ≤ i → drop i xs ≡ []
none_left [] zero le = refl
none_left [] (suc i) le = refl
none_left (x ∷ xs) zero le = absurd (omega arith)
none_left (x ∷ xs) (suc i) le = none_left xs i (omega arith)

-- the search goes on at an index
abbrev pub GoesOn : {X : Type 0} → (X → Bool) → List X → ℕ → Type 0
GoesOn p xs i = position p xs ≡ position_from p i (drop i xs)

-- it begins at the first one
pub position_first : {X : Type 0} (p : X → Bool) (xs : List X) → GoesOn p xs 0
position_first p xs = position_from-zero p xs

-- the element there passes
pub position_there : {X : Type 0} (p : X → Bool) (xs : List X) (i : ℕ) (x : X) → GoesOn p xs i → slice_get xs i ≡ Some x → p x ≡ true → position p xs ≡ Some i
position_there p xs i x goes is passes =
    goes ∙ (ap (position_from p i) (left_at xs i x is) ∙ ap (λ (b : Bool). cond b (Some i) (position_from p (i + 1) (drop (suc i) xs))) passes)

-- or it doesn't
pub position_later : {X : Type 0} (p : X → Bool) (xs : List X) (i : ℕ) (x : X) → GoesOn p xs i → slice_get xs i ≡ Some x → p x ≡ false → GoesOn p xs (suc i)
position_later p xs i x goes is fails =
    goes ∙ (ap (position_from p i) (left_at xs i x is) ∙ (ap (λ (b : Bool). cond b (Some i) (position_from p (i + 1) (drop (suc i) xs))) fails
    ∙ ap (λ (k : ℕ). position_from p k (drop (suc i) xs)) (omega arith)))

-- none is left
pub position_none : {X : Type 0} (p : X → Bool) (xs : List X) (i : ℕ) → GoesOn p xs i → length xs ≤ i → position p xs ≡ None
position_none p xs i goes le = goes ∙ ap (position_from p i) (none_left xs i le)

-- ---- elements by index

-- within a list, what gives its element isn't absent
pub not_absent : {A X : Type 0} (view : A → X) (o : Option A) (xs : List X) (i : ℕ) → option_map view o ≡ slice_get xs i → i < length xs → ((a : A) → o ≡ Some a → ⊥) → ⊥
not_absent view o [] i is lt given = absurd (omega arith)
not_absent view None (x ∷ xs) i is lt given =
    let e = is ∙ slice_get-get_or (x ∷ xs) i x lt in
    absurd cc
not_absent view (Some a) (x ∷ xs) i is lt given = given a refl
