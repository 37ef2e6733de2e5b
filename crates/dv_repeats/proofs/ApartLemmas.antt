-- Keys of which no two are the same, by their numbers.
use Rattle.std.proofs.Common.{◌≡◌, ◌∙◌, ◌<◌, ◌&&◌, ◌||◌, ℕ, zero, suc, Bool, true, false, List, [], ◌∷◌, ◌++◌, length, eqb, not, refl, sym, ap, inl, inr, arith, eq-eqb}
use Rattle.std.proofs.lemmas.Bool.{and_parts, cases_Bool, eqb-true, eqb-false, ne_eqb}
use Rattle.dv_schema.specs.Octets.{are_apart, is_one_of, same_octets}
use Rattle.dv_repeats.specs.Scans.{RepeatsAt, key_at}

-- it doesn't matter which of two numbers stands first
eqb_swap : (x y : ℕ) → eqb x y ≡ eqb y x
eqb_swap x y =
    elim (cases_Bool (eqb x y)) [
      | inl t ↦ t ∙ sym (eq-eqb y x (sym (eqb-true x y t)))
      | inr f ↦ f ∙ sym (ne_eqb y x (λ e. eqb-false x y f (sym e)))
    ]

-- nor which of two lists of octets
pub same_swap : (xs ys : List ℕ) → same_octets xs ys ≡ same_octets ys xs
same_swap [] [] = refl
same_swap [] (y ∷ ys) = refl
same_swap (x ∷ xs) [] = refl
same_swap (x ∷ xs) (y ∷ ys) = ap (λ (b : Bool). b && same_octets xs ys) (eqb_swap x y) ∙ ap (λ (b : Bool). eqb y x && b) (same_swap xs ys)

-- one of some keys has a number among them
pub one_at : (ks : List (List ℕ)) (x : List ℕ) → is_one_of ks x ≡ true → (i : ℕ) × (i < length ks) × (same_octets x (key_at ks i) ≡ true)
one_at [] x e = absurd cc
one_at (k ∷ ks) x e = go (one_at ks x) (same_octets x k) refl
  where
    go : (is_one_of ks x ≡ true → (i : ℕ) × (i < length ks) × (same_octets x (key_at ks i) ≡ true)) → (b : Bool) → same_octets x k ≡ b → (i : ℕ) × (i < length (k ∷ ks)) × (same_octets x (key_at (k ∷ ks) i) ≡ true)
    go more true is = (0, omega arith, is)
    go more false is = let w = more (sym (ap (λ (b : Bool). b || is_one_of ks x) is) ∙ e) in (suc w.0, omega (arith, w.1), w.2)

-- none of some keys has no number there
pub none_at : (ks : List (List ℕ)) (x : List ℕ) (i : ℕ) → is_one_of ks x ≡ false → i < length ks → same_octets x (key_at ks i) ≡ false
none_at [] x i e lt = absurd (omega (arith, lt))
none_at (k ∷ ks) x i e lt = go i lt (none_at ks x) (same_octets x k) refl
  where
    go : (i : ℕ) → i < length (k ∷ ks) → ((j : ℕ) → is_one_of ks x ≡ false → j < length ks → same_octets x (key_at ks j) ≡ false) → (b : Bool) → same_octets x k ≡ b → same_octets x (key_at (k ∷ ks) i) ≡ false
    go i lt more true is = absurd (let bad : true ≡ false = sym (ap (λ (b : Bool). b || is_one_of ks x) is) ∙ e in cc)
    go zero lt more false is = is
    go (suc j) lt more false is = more j (sym (ap (λ (b : Bool). b || is_one_of ks x) is) ∙ e) (omega (arith, lt))

-- where none is the same as x at any number, x is none of them
pub not_one : (ks : List (List ℕ)) (x : List ℕ) → ((i : ℕ) → i < length ks → same_octets x (key_at ks i) ≡ false) → is_one_of ks x ≡ false
not_one [] x none = refl
not_one (k ∷ ks) x none =
    let first = none 0 (omega arith) in
    let more = not_one ks x (λ i lt. none (suc i) (omega (arith, lt))) in
    rw first more

-- six tests, in two orders
apart_tests : (s o a b r : Bool) → (not (s || o) && (not a && (not b && r))) ≡ (not (s || b) && (not o && (not a && r)))
apart_tests true o a b r = refl
apart_tests false true a true r = refl
apart_tests false true a false r = refl
apart_tests false false true true r = refl
apart_tests false false true false r = refl
apart_tests false false false true r = refl
apart_tests false false false false r = refl

-- one of those seen more
seen_more : (seen xs : List (List ℕ)) (x : List ℕ) → are_apart (x ∷ seen) xs ≡ (not (is_one_of xs x) && are_apart seen xs)
seen_more seen [] x = refl
seen_more seen (y ∷ ys) x =
    let r : Bool = are_apart seen ys in
    let a : Bool = is_one_of ys y in
    let b : Bool = is_one_of ys x in
    let o : Bool = is_one_of seen y in
    let deep : are_apart (y ∷ x ∷ seen) ys ≡ (not a && (not b && r)) = seen_more (x ∷ seen) ys y ∙ ap (λ (z : Bool). not a && z) (seen_more seen ys x) in
    let flat : are_apart (y ∷ seen) ys ≡ (not a && r) = seen_more seen ys y in
    ap (λ (z : Bool). not (same_octets y x || o) && z) deep ∙ ap (λ (z : Bool). not (z || o) && (not a && (not b && r))) (same_swap y x) ∙ apart_tests (same_octets x y) o a b r
    ∙ ap (λ (z : Bool). not (same_octets x y || b) && (not o && z)) (sym flat)

-- where no two differ in number alone, the keys are apart
pub apart_at : (ks : List (List ℕ)) → ((i j : ℕ) → i < j → j < length ks → same_octets (key_at ks j) (key_at ks i) ≡ false) → are_apart [] ks ≡ true
apart_at [] differ = refl
apart_at (k ∷ ks) differ =
    let more = apart_at ks (λ i j lt up. differ (suc i) (suc j) (omega (arith, lt)) (omega (arith, up))) in
    let none = not_one ks k (λ i lt. same_swap k (key_at ks i) ∙ differ 0 (suc i) (omega arith) (omega (arith, lt))) in
    seen_more [] ks k ∙ rw (none, more) refl

-- a key that is repeated is one that the keys behind it have
repeated_in : (ks : List (List ℕ)) (x : List ℕ) (i : ℕ) → i < length ks → same_octets (key_at ks i) x ≡ true → is_one_of ks x ≡ true
repeated_in ks x i lt e =
    elim (cases_Bool (is_one_of ks x)) [
      | inl t ↦ t
      | inr f ↦ absurd (let bad : true ≡ false = sym e ∙ same_swap (key_at ks i) x ∙ none_at ks x i f lt in cc)
    ]

-- keys that are apart have none that repeats one
pub not_repeated : (ks : List (List ℕ)) (n : ℕ) → are_apart [] ks ≡ true → n < length ks → RepeatsAt ks n → ⊥
not_repeated [] n apart lt r = absurd (omega (arith, lt))
not_repeated (k ∷ ks) n apart lt r =
    let parts = and_parts _ _ (sym (seen_more [] ks k) ∙ apart) in
    go n lt r.0 r.1 r.2 parts (not_repeated ks)
  where
    go : (n : ℕ) → n < length (k ∷ ks) → (i : ℕ) → i < n → same_octets (key_at (k ∷ ks) n) (key_at (k ∷ ks) i) ≡ true → (not (is_one_of ks k) ≡ true) × (are_apart [] ks ≡ true)
        → ((m : ℕ) → are_apart [] ks ≡ true → m < length ks → RepeatsAt ks m → ⊥) → ⊥
    go zero lt i up e parts more = omega (arith, up)
    go (suc m) lt zero up e parts more = let there = repeated_in ks k m (omega (arith, lt)) e in let bad : true ≡ false = sym parts.0 ∙ ap not there in cc
    go (suc m) lt (suc i) up e parts more = more m parts.1 (omega (arith, lt)) (i, omega (arith, up), e)

-- a key behind some others
pub apart_end : (seen ks : List (List ℕ)) (k : List ℕ) → are_apart seen (ks ++ k ∷ []) ≡ (are_apart seen ks && not (is_one_of seen k || is_one_of ks k))
apart_end seen [] k = last (is_one_of seen k)
  where
    last : (b : Bool) → (not b && true) ≡ not (b || false)
    last true = refl
    last false = refl
apart_end seen (y ∷ ys) k = ap (λ (b : Bool). not (is_one_of seen y) && b) (apart_end (y ∷ seen) ys k) ∙ turn (not (is_one_of seen y)) (are_apart (y ∷ seen) ys) (same_octets k y) (is_one_of seen k) (is_one_of ys k)
  where
    turn : (a b c d e : Bool) → (a && (b && not ((c || d) || e))) ≡ ((a && b) && not (d || (c || e)))
    turn false b c d e = refl
    turn true false c d e = refl
    turn true true true true e = refl
    turn true true true false e = refl
    turn true true false d e = refl
