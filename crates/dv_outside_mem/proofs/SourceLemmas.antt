-- What a read takes of octets that come in pieces.
use Rattle.std.proofs.Common.{◌≡◌, ◌∙◌, ℕ, ◌+◌, ◌-◌, ◌<◌, ◌≤◌, min, List, [], ◌∷◌, ◌++◌, length, take, drop, get_or, refl, ap, subst, sym, arith, length-take, length-drop, lit<, All}
use Rattle.std.proofs.lemmas.List.{take-append-drop, take_at, get_or-drop}
use Rattle.std.specs.Prelude.{Some, Ok}
use Rattle.dv_outside.specs.Source.{Takes}
use Rattle.dv_outside_mem.specs.Source.{next_size}

-- Sizes further on are positive too.
pub positive_later : (cuts : List ℕ) (i j : ℕ) → i ≤ j → All (λ size. 0 < size) (drop i cuts) → All (λ size. 0 < size) (drop j cuts)
positive_later cuts i j le all k d lt =
    subst (λ n. 0 < n)
    (get_or-drop i cuts ((j - i) + k) d ∙ ap (λ n. get_or cuts n d) (omega (arith, le)) ∙ sym (get_or-drop j cuts k d))
    (all ((j - i) + k) d (omega (arith, le, lt, length-drop i cuts, length-drop j cuts)))

-- The next piece has a positive size.
pub next_positive : (sizes : List ℕ) → All (λ size. 0 < size) sizes → 0 < next_size sizes
next_positive [] all = lit< tt
next_positive (size ∷ sizes) all = all 0 0 (omega arith)

-- What a copy of the front takes.
pub takes_front : {E : Type 0} (left rest into was : List ℕ) (size n : ℕ) → 0 < size → 0 < length was → n ≡ min size (min (length was) (length left))
    → into ≡ take n left ++ drop n was → rest ≡ drop n left → Takes {E = E} (Some left) (Some rest) into (Ok n)
takes_front left rest into was size n some room is copied behind =
    let front : take n into ≡ take n left = ap (take n) copied ∙ take_at (take n left) (drop n was) n (omega (arith, length-take n left, is)) in
    record {
      front = ap Some (sym (take-append-drop n left) ∙ ap (λ (l : List ℕ). l ++ drop n left) (sym front) ∙ ap (λ (l : List ℕ). take n into ++ l) (sym behind));
      at_end = (λ none. empty left (omega (arith, is, some, room, none)), λ none. omega (arith, is, ap length none));
      failed = tt;
    }
  where
    empty : (l : List ℕ) → length l ≤ 0 → l ≡ []
    empty [] short = refl
    empty (x ∷ l) short = absurd (omega (arith, short))
