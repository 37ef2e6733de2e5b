-- Going over a list by index.
use Rattle.std.proofs.Common.{◌≡◌, ◌≤◌, ◌<◌, ◌+◌, ◌++◌, ◌∷◌, ◌∙◌, ℕ, zero, suc, Some, List, [], length, take, refl, ap, arith}
use Rattle.std.specs.Prelude.{All, slice_get, sum_by}
use Rattle.std.proofs.lemmas.List.Sums.{sum_by_more, sum_by_more_le}
use Rattle.std.proofs.lemmas.Option.{get_or_from_slice_get, slice_get_within}

-- what is there
pub there : {X : Type 0} (xs : List X) (i : ℕ) → i < length xs → (x : X) × (slice_get xs i ≡ Some x)
there [] i lt = absurd (omega arith)
there (x ∷ xs) zero lt = (x, refl)
there (x ∷ xs) (suc i) lt = there xs i (omega arith)

-- one more of a list
pub take_one : {X : Type 0} (xs : List X) (i : ℕ) (x : X) → slice_get xs i ≡ Some x → take (suc i) xs ≡ take i xs ++ x ∷ []
take_one [] i x is = absurd cc
take_one (y ∷ ys) zero x is = let same : y ≡ x = cc in ap (λ z. z ∷ []) same
take_one (y ∷ ys) (suc i) x is = ap (λ l. y ∷ l) (take_one ys i x is)

-- and of a sum
pub sum_one : {X : Type 0} (f : X → ℕ) (xs : List X) (i : ℕ) (x : X) → slice_get xs i ≡ Some x → sum_by f (take (i + 1) xs) ≡ sum_by f (take i xs) + f x
sum_one f xs i x is = sum_by_more f xs i x (slice_get_within xs i x is) ∙ ap (λ z. sum_by f (take i xs) + f z) (get_or_from_slice_get xs i x x is)

pub sum_one_le : {X : Type 0} (f : X → ℕ) (xs : List X) (i : ℕ) (x : X) → slice_get xs i ≡ Some x → sum_by f (take i xs) + f x ≤ sum_by f xs
sum_one_le f xs i x is = omega (arith, sum_by_more_le f xs i x (slice_get_within xs i x is), ap f (get_or_from_slice_get xs i x x is))

-- an element alone
pub all_one : {X : Type 0} (P : X → Type 0) (x : X) → P x → All P (x ∷ [])
all_one P x h zero d lt = h
all_one P x h (suc k) d lt = absurd (omega arith)
