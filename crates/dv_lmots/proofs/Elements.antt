-- A list of known length, element by element.
use Rattle.std.proofs.Common.{◌≡◌, ℕ, zero, suc, ◌+◌, List, [], ◌∷◌, length, drop, get_or, ap, ◌∙◌, arith, drop-cons}
use Rattle.std.proofs.lemmas.List.{drop_all}

-- n elements of a list, from i on
abbrev pub elements : List ℕ → ℕ → ℕ → List ℕ
elements xs i zero = []
elements xs i (suc n) = get_or xs i 0 ∷ elements xs (suc i) n

-- the rest of a list
drop-elements : (xs : List ℕ) (n i : ℕ) → length xs ≡ i + n → drop i xs ≡ elements xs i n
drop-elements xs zero i h = drop_all i xs (omega arith)
drop-elements xs (suc n) i h = drop-cons xs i 0 (omega arith) ∙ ap (λ r. get_or xs i 0 ∷ r) (drop-elements xs n (suc i) (omega arith))

-- the whole list
pub whole-elements : (xs : List ℕ) (n : ℕ) → length xs ≡ n → xs ≡ elements xs 0 n
whole-elements xs n h = drop-elements xs n 0 (omega arith)
