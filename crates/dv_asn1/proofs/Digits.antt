-- How the digits of a number in base 256 follow from those of its quotient by 256.
use Rattle.std.proofs.Common.{◌≡◌, ℕ, ◌+◌, ◌/◌, ◌%◌, ◌<◌, ◌≤◌, ◌^◌, arith, List, [], ◌∷◌, ◌++◌, length, get_or, ap, ◌∙◌, refl, sym}
use Rattle.std.specs.Int.Digits.{digits_of}
use Rattle.std.proofs.lemmas.Int.Digits.{digits_of_step, length-digits_of_step, length-digits_of-le, first_digits_of}

-- the last digit is the rest of the division
pub digits_step : (n : ℕ) → 0 < n → digits_of 256 n ≡ digits_of 256 (n / 256) ++ n % 256 ∷ []
digits_step n pos = digits_of_step 256 n (omega arith) pos

-- so there is one digit more
pub length-digits_step : (n : ℕ) → 0 < n → length (digits_of 256 n) ≡ length (digits_of 256 (n / 256)) + 1
length-digits_step n pos = length-digits_of_step 256 n (omega arith) pos

-- a number of 64 bits has at most eight digits
pub length-digits_le : (n : ℕ) → n < 18446744073709551616 → length (digits_of 256 n) ≤ 8
length-digits_le n lt = let small : n < 256 ^ 8 = lt in length-digits_of-le 256 8 n (omega arith) small

-- a list whose first digit isn't 0 has the same one whatever follows
first-append : (xs ys : List ℕ) → 0 < get_or xs 0 0 → get_or (xs ++ ys) 0 0 ≡ get_or xs 0 0
first-append [] ys h = absurd (omega arith)
first-append (x ∷ xs) ys h = refl

-- a number of 256 or more begins with the digit that its quotient begins with
pub first-digits_step : (n : ℕ) → 256 ≤ n → get_or (digits_of 256 (n / 256)) 0 0 ≡ get_or (digits_of 256 n) 0 0
first-digits_step n le =
    let pos : 0 < n / 256 = omega arith in
    let some = first_digits_of 256 (n / 256) (omega arith) pos in
    sym (ap (λ (xs : List ℕ). get_or xs 0 0) (digits_step n (omega arith)) ∙ first-append (digits_of 256 (n / 256)) (n % 256 ∷ []) some)

-- a number below 256 is its own first digit
pub first-digits_small : (n : ℕ) → 0 < n → n < 256 → get_or (digits_of 256 n) 0 0 ≡ n
first-digits_small n pos lt =
    let z : n / 256 ≡ 0 = omega arith in
    let r : n % 256 ≡ n = omega arith in
    ap (λ (xs : List ℕ). get_or xs 0 0) (digits_step n pos) ∙ ap (λ (k : ℕ). get_or (digits_of 256 k ++ n % 256 ∷ []) 0 0) z ∙ r
