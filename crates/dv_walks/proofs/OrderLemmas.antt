-- Which of two lists is before the other.
use Rattle.std.proofs.Common.{◌≡◌, ◌⊎◌, inl, inr, ℕ, List, [], ◌∷◌, length, refl, ap₂, sym, arith}
use Rattle.std.proofs.lemmas.Bool.{cases_order}
use Rattle.dv_walks.specs.Walk.{IsBefore, IsLower}

-- What is lower than a lower list is lower.
pub IsLower-trans : (a b c : List ℕ) → IsLower a b → IsLower b c → IsLower a c
IsLower-trans [] b c p q = absurd p
IsLower-trans (x ∷ a) [] c p q = absurd p
IsLower-trans (x ∷ a) (y ∷ b) [] p q = absurd q
IsLower-trans (x ∷ a) (y ∷ b) (z ∷ c) p q = elim p [
  | inl below ↦ elim q [ inl above ↦ inl (omega arith) | inr same ↦ inl (let e = same.0 in omega arith) ]
  | inr same ↦ elim q [ inl above ↦ inl (let e = same.0 in omega arith) | inr equal ↦ inr (let e = same.0 in let f = equal.0 in omega arith, IsLower-trans a b c same.1 equal.1) ]
]

-- What is before a list that is before another is before that.
pub IsBefore-trans : (a b c : List ℕ) → IsBefore a b → IsBefore b c → IsBefore a c
IsBefore-trans a b c p q = elim p [
  | inl short ↦ elim q [ inl shorter ↦ inl (omega arith) | inr same ↦ inl (let e = same.0 in omega arith) ]
  | inr same ↦ elim q [ inl shorter ↦ inl (let e = same.0 in omega arith) | inr equal ↦ inr (let e = same.0 in let f = equal.0 in omega arith, IsLower-trans a b c same.1 equal.1) ]
]

-- Of two lists that are as long one is lower, or they are equal.
pub cases_lower : (a b : List ℕ) → length a ≡ length b → (a ≡ b) ⊎ (IsLower a b ⊎ IsLower b a)
cases_lower [] [] long = inl refl
cases_lower [] (y ∷ b) long = absurd (omega arith)
cases_lower (x ∷ a) [] long = absurd (omega arith)
cases_lower (x ∷ a) (y ∷ b) long = elim (cases_order x y) [
  | inl same ↦ elim (cases_lower a b (omega arith)) [
    | inl equal ↦ inl (ap₂ (λ (z : ℕ) (c : List ℕ). z ∷ c) same equal)
    | inr apart ↦ elim apart [ inl lower ↦ inr (inl (inr (same, lower))) | inr lower ↦ inr (inr (inr (sym same, lower))) ]
  ]
  | inr apart ↦ elim apart [ inl below ↦ inr (inl (inl below)) | inr above ↦ inr (inr (inl above)) ]
]

-- Of two lists one is before the other, or they are equal.
pub cases_before : (a b : List ℕ) → (a ≡ b) ⊎ (IsBefore a b ⊎ IsBefore b a)
cases_before a b = elim (cases_order (length a) (length b)) [
  | inl same ↦ elim (cases_lower a b same) [
    | inl equal ↦ inl equal
    | inr apart ↦ elim apart [ inl lower ↦ inr (inl (inr (same, lower))) | inr lower ↦ inr (inr (inr (sym same, lower))) ]
  ]
  | inr apart ↦ elim apart [ inl below ↦ inr (inl (inl below)) | inr above ↦ inr (inr (inl above)) ]
]
