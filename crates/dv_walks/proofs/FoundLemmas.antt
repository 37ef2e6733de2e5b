-- The least walk by some rows, and by one row more.
use Rattle.std.proofs.Common.{◌≡◌, ◌<◌, ◌⊎◌, inl, inr, ℕ, zero, suc, List, [], ◌∷◌, ◌++◌, length, Bool, sym, subst, arith, get_or, Any, Option, Some, None, MatchOption, Vec, Global}
use Rattle.std.proofs.lemmas.List.Quantifiers.{Any-push}
use Rattle.dv_walks.specs.Graph.{GraphState}
use Rattle.dv_walks.specs.Walk.{Allows, IsAllowed, IsBefore, IsLeastWalk, IsWalk}
use Rattle.dv_walks.specs.Search.{IsLeastRowWalk, IsLesserOf, IsRowWalk}
use Rattle.dv_walks.proofs.OrderLemmas.{IsBefore-trans, cases_before}

-- What holds of some member holds of one of the first, or of the last.
pub Any-push_cases : {X : Type 0} (P : X → Type 0) (xs : List X) (y : X) → Any P (xs ++ y ∷ []) → Any P xs ⊎ P y
Any-push_cases {X} P [] y any = last any.0 any.1 any.2 any.3 any.4
  where
    last : (k : ℕ) (x : X) → k < length (y ∷ []) → get_or (y ∷ []) k x ≡ x → P x → Any P [] ⊎ P y
    last zero x inside is holds = inr (subst P (sym is) holds)
    last (suc k) x inside is holds = absurd (omega arith)
Any-push_cases {X} P (x ∷ xs) y any = at (Any-push_cases P xs y) any.0 any.1 any.2 any.3 any.4
  where
    at : (Any P (xs ++ y ∷ []) → Any P xs ⊎ P y) → (k : ℕ) (z : X) → k < length (x ∷ xs ++ y ∷ []) → get_or (x ∷ (xs ++ y ∷ [])) k z ≡ z → P z → Any P (x ∷ xs) ⊎ P y
    at cases zero z inside is holds = inl (0, z, omega arith, is, holds)
    at cases (suc k) z inside is holds = elim (cases (k, z, omega arith, is, holds)) [
      | inl some ↦ inl (suc some.0, some.1, omega (arith, some.2), some.3, some.4)
      | inr here ↦ inr here
    ]

-- What holds of some member holds of some member where there is one more.
pub Any-push_left : {X : Type 0} (P : X → Type 0) (xs : List X) (y : X) → Any P xs → Any P (xs ++ y ∷ [])
Any-push_left P [] y any = absurd (omega (arith, any.2))
Any-push_left {X} P (x ∷ xs) y any = at (Any-push_left P xs y) any.0 any.1 any.2 any.3 any.4
  where
    at : (Any P xs → Any P (xs ++ y ∷ [])) → (k : ℕ) (z : X) → k < length (x ∷ xs) → get_or (x ∷ xs) k z ≡ z → P z → Any P (x ∷ (xs ++ y ∷ []))
    at left zero z inside is holds = (0, z, omega arith, is, holds)
    at left (suc k) z inside is holds =
        let more = left (k, z, omega arith, is, holds) in
        (suc more.0, more.1, omega (arith, more.2), more.3, more.4)

-- The least walk by these rows, or none where there is none.
abbrev pub IsFound : GraphState → List (List Bool) → ℕ → Option (Vec ℕ Global) → Type 0
IsFound graph rows start best = MatchOption best ((walk : List ℕ) → IsWalk graph start walk → ¬ IsAllowed rows walk) (λ walk. IsLeastWalk graph rows start walk.items)

-- By no rows there is none.
pub IsFound-none : (graph : GraphState) (start : ℕ) → IsFound graph [] start None
IsFound-none graph start walk walks allowed = omega (arith, allowed.2)

-- The least walk by a row.
abbrev pub IsRowFound : GraphState → List Bool → ℕ → Option (Vec ℕ Global) → Type 0
IsRowFound graph row start found = MatchOption found ((walk : List ℕ) → ¬ IsRowWalk graph row start walk) (λ walk. IsLeastRowWalk graph row start walk.items)

-- One row more.
pub IsFound-more : (graph : GraphState) (rows : List (List Bool)) (row : List Bool) (start : ℕ) (best found result : Option (Vec ℕ Global))
    → IsFound graph rows start best → IsRowFound graph row start found → IsLesserOf best found result → IsFound graph (rows ++ row ∷ []) start result
IsFound-more graph rows row start None None result none none_by_row lesser =
    subst (IsFound graph (rows ++ row ∷ []) start) (sym lesser) (λ walk walks allowed. elim (Any-push_cases (Allows walk) rows row allowed) [
      | inl before ↦ none walk walks before
      | inr here ↦ none_by_row walk (walks, here)
    ])
IsFound-more graph rows row start None (Some walk) result none least lesser =
    subst (IsFound graph (rows ++ row ∷ []) start) (sym lesser) (record {
      walks = least.walks.0;
      allowed = Any-push (Allows walk.items) rows row least.walks.1;
      least = λ other walks allowed before. elim (Any-push_cases (Allows other) rows row allowed) [
        | inl some ↦ none other walks some
        | inr here ↦ least.least other (walks, here) before
      ];
    })
IsFound-more graph rows row start (Some best) None result least none_by_row lesser =
    subst (IsFound graph (rows ++ row ∷ []) start) (sym lesser) (record {
      walks = least.walks;
      allowed = Any-push_left (Allows best.items) rows row least.allowed;
      least = λ other walks allowed before. elim (Any-push_cases (Allows other) rows row allowed) [
        | inl some ↦ least.least other walks some before
        | inr here ↦ none_by_row other (walks, here)
      ];
    })
IsFound-more graph rows row start (Some best) (Some found) result least least_by_row lesser = elim lesser [
  | inl stays ↦ subst (IsFound graph (rows ++ row ∷ []) start) (sym stays.0) (record {
    walks = least.walks;
    allowed = Any-push_left (Allows best.items) rows row least.allowed;
    least = λ other walks allowed before. elim (Any-push_cases (Allows other) rows row allowed) [
      | inl some ↦ least.least other walks some before
      | inr here ↦ least_by_row.least other (walks, here) (elim (cases_before found.items best.items) [
        | inl same ↦ subst (IsBefore other) (sym same) before
        | inr apart ↦ elim apart [ inl less ↦ absurd (stays.1 less) | inr more ↦ IsBefore-trans other best.items found.items before more ]
      ])
    ];
  })
  | inr changes ↦ subst (IsFound graph (rows ++ row ∷ []) start) (sym changes.0) (record {
    walks = least_by_row.walks.0;
    allowed = Any-push (Allows found.items) rows row least_by_row.walks.1;
    least = λ other walks allowed before. elim (Any-push_cases (Allows other) rows row allowed) [
      | inl some ↦ least.least other walks some (IsBefore-trans other found.items best.items before changes.1)
      | inr here ↦ least_by_row.least other (walks, here) before
    ];
  })
]

-- There is one least walk at most.
pub IsLeastWalk-one : (graph : GraphState) (rows : List (List Bool)) (start : ℕ) (a b : List ℕ) → IsLeastWalk graph rows start a → IsLeastWalk graph rows start b → a ≡ b
IsLeastWalk-one graph rows start a b first second = elim (cases_before a b) [
  | inl same ↦ same
  | inr apart ↦ elim apart [
    | inl less ↦ absurd (second.least a first.walks first.allowed less)
    | inr more ↦ absurd (first.least b second.walks second.allowed more)
  ]
]
