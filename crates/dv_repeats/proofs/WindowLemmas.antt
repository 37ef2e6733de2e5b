-- Keys in ascending order.
use Rattle.std.proofs.Common.{◌≡◌, ◌∙◌, ◌<◌, ◌≤◌, ◌+◌, ◌-◌, ◌&&◌, ◌||◌, ◌⊎◌, ℕ, zero, suc, Bool, true, false, Result, Ok, Err, List, [], ◌∷◌, length, eqb, ltb, get_or, refl, sym, ap, subst, inl, inr, arith, eq-eqb}
use Rattle.std.proofs.lemmas.Bool.{cases_Bool, eqb-true, eqb-false, ltb-true, ltb-false, ne_eqb}
use Rattle.std.specs.Borrow.{Bor}
use Rattle.std.specs.Cmp.Lexicographic.{slice_cmp}
use Rattle.std.specs.List.{insert, list_any}
use Rattle.std.specs.List.Sorted.{IsBinarySearchResult, IsSearchInRange}
use Rattle.std.specs.Cmp.{IsStrictWeakOrder}
use Rattle.std.specs.Ordering.{is_eq, is_lt, nat_cmp, ordering_then}
use Rattle.std.specs.Prelude.{MatchResult, is_ok}
use Rattle.std.specs.declared.cmp.Ordering.TheVariants.{Equal}
use Rattle.std.proofs.lemmas.Cmp.{nat_list_cmp_total}
use Rattle.std.proofs.lemmas.List.Edits.{get_or-insert_at, get_or-insert_below, get_or-insert_above}
use Rattle.std.proofs.lemmas.List.Sorted.{IsPermutation-insert, length_permutation, list_any-IsPermutation, searchable_from_sorted, sorted_far, ranks_by}
use Rattle.dv_schema.specs.Octets.{is_one_of, same_octets}
use Rattle.dv_repeats.specs.Windows.{IsAscending, keys_of}

-- what is one of the keys passes a test of one of them
among_any : (keys : List (Bor (List ℕ))) (x : List ℕ) → is_one_of (keys_of keys) x ≡ list_any (λ k. same_octets x k.now) keys
among_any [] x = refl
among_any (k ∷ ks) x = ap (λ (b : Bool). same_octets x k.now || b) (among_any ks x)

-- one key more, wherever it is put
pub among_more : (keys : List (Bor (List ℕ))) (i : ℕ) (key : Bor (List ℕ)) (x : List ℕ) → is_one_of (keys_of (insert keys i key)) x ≡ (same_octets x key.now || is_one_of (keys_of keys) x)
among_more keys i key x =
    let test : Bor (List ℕ) → Bool = λ k. same_octets x k.now in
    among_any (insert keys i key) x ∙ sym (list_any-IsPermutation test (key ∷ keys) (insert keys i key) (IsPermutation-insert keys i key)) ∙ ap (λ (b : Bool). same_octets x key.now || b) (sym (among_any keys x))

-- two lists of octets compare as equal exactly where they are the same
cmp_same : (xs ys : List ℕ) → is_eq (slice_cmp nat_cmp xs ys) ≡ same_octets ys xs
cmp_same [] [] = refl
cmp_same [] (y ∷ ys) = refl
cmp_same (x ∷ xs) [] = refl
cmp_same (x ∷ xs) (y ∷ ys) = go (cmp_same xs ys) (ltb x y) (eqb x y) refl refl
  where
    go : is_eq (slice_cmp nat_cmp xs ys) ≡ same_octets ys xs → (a b : Bool) → ltb x y ≡ a → eqb x y ≡ b → is_eq (ordering_then (nat_cmp x y) (slice_cmp nat_cmp xs ys)) ≡ (eqb y x && same_octets ys xs)
    go more true b e f = let ne : eqb y x ≡ false = ne_eqb y x (λ h. absurd (omega (arith, h, ltb-true x y e))) in rw (e, ne) refl
    go more false true e f = let eq : eqb y x ≡ true = eq-eqb y x (sym (eqb-true x y f)) in rw (e, f, eq) more
    go more false false e f = let ne : eqb y x ≡ false = ne_eqb y x (λ h. eqb-false x y f (sym h)) in rw (e, f, ne) refl

-- an element that passes a test
some_at : {X : Type 0} (test : X → Bool) (xs : List X) (i : ℕ) (d : X) → i < length xs → test (get_or xs i d) ≡ true → list_any test xs ≡ true
some_at test [] i d lt e = absurd (omega (arith, lt))
some_at test (x ∷ xs) zero d lt e = rw e refl
some_at test (x ∷ xs) (suc i) d lt e = let more = some_at test xs i d (omega (arith, lt)) e in
    elim (cases_Bool (test x)) [
      | inl t ↦ rw t refl
      | inr f ↦ rw f more
    ]

-- none that does
none_at : {X : Type 0} (test : X → Bool) (xs : List X) → ((i : ℕ) (d : X) → i < length xs → test (get_or xs i d) ≡ false) → list_any test xs ≡ false
none_at test [] none = refl
none_at test (x ∷ xs) none =
    let first = none 0 x (omega arith) in
    let more = none_at test xs (λ i d lt. none (suc i) d (omega (arith, lt))) in
    rw first more

-- one key is less than another
abbrev is_before : Bor (List ℕ) → Bor (List ℕ) → Bool
is_before x y = is_lt (slice_cmp nat_cmp x.now y.now)

order : IsStrictWeakOrder is_before
order = ranks_by nat_list_cmp_total (λ (k : Bor (List ℕ)). k.now)

-- no key below the place is greater than the new one, and none from it on is less
pub record IsPlace (keys : List (Bor (List ℕ))) (i : ℕ) (key : Bor (List ℕ)) : Type 0 where
  pub within : i ≤ length keys
  pub below : (k : ℕ) (d : Bor (List ℕ)) → k < i → is_before key (get_or keys k d) ≡ false
  pub above : (k : ℕ) (d : Bor (List ℕ)) → i ≤ k → k < length keys → is_before (get_or keys k d) key ≡ false

-- what compares as equal is less neither way
equal_before : (x y : Bor (List ℕ)) → slice_cmp nat_cmp x.now y.now ≡ Equal → is_before x y ≡ false
equal_before x y e = rw e refl

equal_behind : (x y : Bor (List ℕ)) → slice_cmp nat_cmp x.now y.now ≡ Equal → is_before y x ≡ false
equal_behind x y e = let back = nat_list_cmp_total.antisymm y.now x.now in rw (back, e) refl

-- what a search answers is such a place
pub place_of : (keys : List (Bor (List ℕ))) (key : Bor (List ℕ)) (r : Result ℕ ℕ) → IsAscending keys → IsSearchInRange r (length keys) → IsBinarySearchResult (λ y. slice_cmp nat_cmp y.now key.now) keys r
    → MatchResult r (λ i. IsPlace keys i key) (λ i. IsPlace keys i key)
place_of keys key (Ok i) up within found =
    record {
      within = omega (arith, within);
      below = λ k d lt. order.chain key (get_or keys i d) (get_or keys k d) (equal_behind (get_or keys i d) key (found d)) (sorted_far is_before order keys up k i d (omega (arith, lt)) within);
      above = λ k d le lt. order.chain (get_or keys k d) (get_or keys i d) key (sorted_far is_before order keys up i k d le lt) (equal_before (get_or keys i d) key (found d));
    }
place_of keys key (Err i) up within found =
    let parts = found (searchable_from_sorted nat_list_cmp_total (λ (k : Bor (List ℕ)). k.now) keys key.now up) in
    record {
      within = within;
      below = λ k d lt. order.one_way (get_or keys k d) key (let e = parts.0 k d (omega arith) lt in rw e refl);
      above = λ k d le lt. (let e = parts.1 k d le lt in rw e refl);
    }

-- whether a search finds the key is whether it is one of them
pub found_is : (keys : List (Bor (List ℕ))) (key : Bor (List ℕ)) (r : Result ℕ ℕ) → IsAscending keys → IsSearchInRange r (length keys) → IsBinarySearchResult (λ y. slice_cmp nat_cmp y.now key.now) keys r
    → is_ok r ≡ is_one_of (keys_of keys) key.now
found_is keys key (Ok i) up within found =
    let test : Bor (List ℕ) → Bool = λ k. same_octets key.now k.now in
    let here : test (get_or keys i key) ≡ true = sym (cmp_same (get_or keys i key).now key.now) ∙ ap is_eq (found key) in
    sym (among_any keys key.now ∙ some_at test keys i key within here)
found_is keys key (Err i) up within found =
    let test : Bor (List ℕ) → Bool = λ k. same_octets key.now k.now in
    let parts = found (searchable_from_sorted nat_list_cmp_total (λ (k : Bor (List ℕ)). k.now) keys key.now up) in
    let none : (k : ℕ) (d : Bor (List ℕ)) → k < length keys → test (get_or keys k d) ≡ false = λ k d lt.
    sym (cmp_same (get_or keys k d).now key.now) ∙ elim (cases_Bool (ltb k i)) [
      | inl t ↦ (let e = parts.0 k d (omega arith) (ltb-true k i t) in rw e refl)
      | inr f ↦ (let e = parts.1 k d (ltb-false k i f) lt in rw e refl)
    ] in
    sym (among_any keys key.now ∙ none_at test keys none)

-- the order of two keys that are known
known_order : (a b x y : Bor (List ℕ)) → a ≡ x → b ≡ y → is_before x y ≡ false → is_before a b ≡ false
known_order a b x y e f h = rw (e, f) h

-- a key that is put at its place
pub ascending_more : (keys : List (Bor (List ℕ))) (i : ℕ) (key : Bor (List ℕ)) → IsAscending keys → IsPlace keys i key → IsAscending (insert keys i key)
ascending_more keys i key up place = λ k d z lt.
    (let new : List (Bor (List ℕ)) = insert keys i key in
    let size = length_permutation (key ∷ keys) new (IsPermutation-insert keys i key) in
    elim (cases_Bool (ltb (k + 1) i)) [
      | inl t ↦ (let far = ltb-true (k + 1) i t in
          known_order _ _ _ _ (get_or-insert_below keys i key d (k + 1) far place.within) (get_or-insert_below keys i key d k (omega (arith, far)) place.within) (up k d z (omega (arith, far, place.within))))
      | inr f ↦ (let near = ltb-false (k + 1) i f in elim (cases_Bool (eqb (k + 1) i)) [
        | inl t ↦ (let at = eqb-true (k + 1) i t in
            known_order _ _ _ _ (ap (λ (j : ℕ). get_or new j d) at ∙ get_or-insert_at keys i key d place.within) (get_or-insert_below keys i key d k (omega (arith, at)) place.within) (place.below k d (omega (arith, at))))
        | inr g ↦ (let behind = eqb-false (k + 1) i g in elim (cases_Bool (eqb k i)) [
          | inl t ↦ (let at = eqb-true k i t in
              known_order _ _ _ _ (get_or-insert_above keys i key d k (omega (arith, at)) place.within) (ap (λ (j : ℕ). get_or new j d) at ∙ get_or-insert_at keys i key d place.within) (place.above k d (omega (arith, at)) (omega (arith, lt, size))))
          | inr h ↦ (let past = eqb-false k i h in
              let j : ℕ = k - 1 in
              let is : k ≡ j + 1 = omega (arith, near, behind, past) in
              known_order _ _ _ _ (get_or-insert_above keys i key d k (omega (arith, near, behind)) place.within) (ap (λ (m : ℕ). get_or new m d) is ∙ get_or-insert_above keys i key d j (omega (arith, near, behind, past)) place.within)
              (ap (λ (m : ℕ). is_before (get_or keys m d) (get_or keys j d)) is ∙ up j d (omega arith) (omega (arith, lt, size, is))))
        ])
      ])
    ])

-- the two, of a slice that holds these keys
pub searched_is : (keys slice : List (Bor (List ℕ))) (key : Bor (List ℕ)) (r : Result ℕ ℕ) → slice ≡ keys → IsAscending keys → IsSearchInRange r (length slice) → IsBinarySearchResult (λ y. slice_cmp nat_cmp y.now key.now) slice r
    → is_ok r ≡ is_one_of (keys_of keys) key.now
searched_is keys slice key r same up within found =
    found_is keys key r up (subst (λ (s : List (Bor (List ℕ))). IsSearchInRange r (length s)) same within) (subst (λ (s : List (Bor (List ℕ))). IsBinarySearchResult (λ y. slice_cmp nat_cmp y.now key.now) s r) same found)

pub ascending_at : (keys slice : List (Bor (List ℕ))) (key : Bor (List ℕ)) (r : Result ℕ ℕ) (i : ℕ) → slice ≡ keys → IsAscending keys → IsSearchInRange r (length slice) → IsBinarySearchResult (λ y. slice_cmp nat_cmp y.now key.now) slice r
    → (r ≡ Ok i) ⊎ (r ≡ Err i) → IsPlace keys i key
ascending_at keys slice key r i same up within found is =
    let place = place_of keys key r up (subst (λ (s : List (Bor (List ℕ))). IsSearchInRange r (length s)) same within) (subst (λ (s : List (Bor (List ℕ))). IsBinarySearchResult (λ y. slice_cmp nat_cmp y.now key.now) s r) same found) in
    elim is [
      | inl e ↦ subst (λ (r : Result ℕ ℕ). MatchResult r (λ i. IsPlace keys i key) (λ i. IsPlace keys i key)) e place
      | inr e ↦ subst (λ (r : Result ℕ ℕ). MatchResult r (λ i. IsPlace keys i key) (λ i. IsPlace keys i key)) e place
    ]
