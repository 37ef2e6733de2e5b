-- The least octets of a number are the octets that it was read from.
use Rattle.std.proofs.Common.{◌≡◌, ℕ, zero, suc, ◌+◌, ◌*◌, ◌^◌, ◌<◌, ◌≤◌, List, [], ◌∷◌, ◌++◌, inl, inr, take, length, get_or, refl, sym, ap, subst, ◌∙◌, arith}
use Rattle.std.specs.Int.Digits.{digits_of, number_from_digits, number_from_digits_after}
use Rattle.std.proofs.lemmas.Int.Digits.{digits_of_step, number_after_ge, number_more}
use Rattle.std.proofs.lemmas.Nat.{div-mul-add, mod-mul-add}
use Rattle.std.proofs.lemmas.Bool.{cases_lt}
use Rattle.std.proofs.lemmas.List.{take_more, get_or-take, get_or_past, length-take}
use Rattle.std.proofs.Math.Seq.{take-length}
use Rattle.std.proofs.lemmas.Grind.{pow_more}

-- each member is below 256
abbrev pub IsBytes : List ℕ → Type 0
IsBytes bytes = (i : ℕ) → get_or bytes i 0 < 256

-- no octets
pub IsBytes-nil : IsBytes []
IsBytes-nil i = omega arith

-- one octet more at the front
pub IsBytes-cons : (b : ℕ) (bs : List ℕ) → b < 256 → IsBytes bs → IsBytes (b ∷ bs)
IsBytes-cons b bs lt bytes zero = lt
IsBytes-cons b bs lt bytes (suc i) = bytes i

-- the first ones of octets
pub IsBytes-take : (n : ℕ) (bytes : List ℕ) → IsBytes bytes → IsBytes (take n bytes)
IsBytes-take n bytes h i =
    elim (cases_lt i n) [
      | inl lt ↦ rw (get_or-take n bytes i 0 lt) (h i)
      | inr le ↦ rw (get_or_past (take n bytes) i 0 (omega (arith, length-take n bytes))) (omega arith)
    ]

-- a number is above 0 where its first digit is
number_pos : (ds : List ℕ) → 0 < get_or ds 0 0 → 0 < number_from_digits 256 ds
number_pos [] h = absurd (omega arith)
number_pos (d ∷ ds) h =
    let p : 0 * 256 + d ≤ number_from_digits_after 256 (0 * 256 + d) ds = number_after_ge 256 (0 * 256 + d) ds (omega arith) in
    let k : 0 < d = h in
    omega (arith, p, k)

-- the digits of a number whose last one is d
digits_last : (m d : ℕ) → d < 256 → 0 < m * 256 + d → digits_of 256 (m * 256 + d) ≡ digits_of 256 m ++ d ∷ []
digits_last m d lt pos =
    digits_of_step 256 (m * 256 + d) (omega arith) pos ∙ rw (div-mul-add m 256 d lt, mod-mul-add m 256 d lt) refl

-- the first k digits of a list that doesn't begin with 0 are the least ones of their number
front_back : (k : ℕ) (ds : List ℕ) → k ≤ length ds → IsBytes ds → (0 < k → 0 < get_or ds 0 0) → digits_of 256 (number_from_digits 256 (take k ds)) ≡ take k ds
front_back zero ds le bytes first = refl
front_back (suc k) ds le bytes first =
    let lt : k < length ds = omega arith in
    let two : take (k + 1) ds ≡ take k ds ++ get_or ds k 0 ∷ [] = take_more ds k 0 lt in
    let n : number_from_digits 256 (take (k + 1) ds) ≡ number_from_digits 256 (take k ds) * 256 + get_or ds k 0 = number_more 256 ds k lt in
    let some : 0 < get_or ds 0 0 = first (omega arith) in
    let start : get_or (take (k + 1) ds) 0 0 ≡ get_or ds 0 0 = get_or-take (k + 1) ds 0 0 (omega arith) in
    let pos0 : 0 < number_from_digits 256 (take (k + 1) ds) = number_pos (take (k + 1) ds) (omega arith) in
    let pos : 0 < number_from_digits 256 (take k ds) * 256 + get_or ds k 0 = omega arith in
    let ih = front_back k ds (omega arith) bytes (λ p. some) in
    let last = digits_last (number_from_digits 256 (take k ds)) (get_or ds k 0) (bytes k) pos in
    let whole : digits_of 256 (number_from_digits 256 (take (k + 1) ds)) ≡ take (k + 1) ds = ap (digits_of 256) n ∙ last ∙ ap (λ (xs : List ℕ). xs ++ get_or ds k 0 ∷ []) ih ∙ sym two in
    let e : k + 1 ≡ suc k = omega arith in
    subst (λ (n : ℕ). digits_of 256 (number_from_digits 256 (take n ds)) ≡ take n ds) e whole

-- digits that don't begin with 0 are the least ones of their number
pub digits_back : (ds : List ℕ) → IsBytes ds → 0 < get_or ds 0 0 → digits_of 256 (number_from_digits 256 ds) ≡ ds
digits_back ds bytes first =
    let p = front_back (length ds) ds (omega arith) bytes (λ h. first) in
    subst (λ (xs : List ℕ). digits_of 256 (number_from_digits 256 xs) ≡ xs) (take-length ds) p

-- one more digit in base 256
pub grows : (i n d : ℕ) → n < 256 ^ i → d < 256 → n * 256 + d < 256 ^ (i + 1)
grows i n d small digit = let more : 256 ^ (i + 1) ≡ 256 ^ i * 256 = pow_more 256 i in omega (arith, more)
