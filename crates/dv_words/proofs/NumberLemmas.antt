-- What a text of digits is to the parser of std.
use Rattle.std.proofs.Common.{◌≡◌, ◌∙◌, ◌&&◌, ◌<◌, ◌≤◌, ◌-◌, ◌^◌, ℕ, zero, suc, Bool, cond, true, false, refl, sym, ap, arith, [], ◌∷◌, length, Option, Some, None, Result, Ok, Err, true≢false, subst, drop, ne_eqb, ◌==◌}
use Rattle.std.proofs.lemmas.Bool.{leb-true, le-ltb, lt-ltb, le-leb, ltb-true, false_from_ne_true}
use Rattle.std.specs.Result.{OkIff, result_ok}
use Rattle.std.specs.Prelude.{nat_le, nat_lt}
use Rattle.std.specs.List.{list_all}
use Rattle.std.specs.Char.{digit_value}
use Rattle.std.specs.Str.Parse.{AllDigits, IsNumeral, ParsesUnsigned, digits_value, without_leading_plus}
use Rattle.clap.proofs.WalkLemmas.{both}
use Rattle.dv_words.specs.Uses.{Text}
use Rattle.dv_words.specs.Number.{is_digit, number_of}

pick : (a b : Bool) (x y z : ℕ) → a ≡ false → b ≡ true → cond a x (cond b y z) ≡ y
pick a b x y z e f = λ i. cond (e i) x (cond (f i) y z)

digit_small : (c : ℕ) → is_digit c ≡ true → digit_value c < 10
digit_small c h =
    let parts = both (nat_le 48 c) (nat_le c 57) h in
    let low : 48 ≤ c = leb-true 48 c parts.0 in
    let high : c ≤ 57 = leb-true c 57 parts.1 in
    let value : digit_value c ≡ c - 48 = pick (nat_lt c 48) (nat_lt c 58) 36 (c - 48) (cond (nat_lt c 65) 36 (cond (nat_lt c 91) (c - 55) (cond (nat_lt c 97) 36 (cond (nat_lt c 123) (c - 87) 36))))
    (le-ltb c 48 low) (lt-ltb c 58 (omega arith)) in
    subst (λ n. n < 10) (sym value) (omega arith)

digits_small : (t : Text) → list_all is_digit t ≡ true → AllDigits 10 t
digits_small [] h = tt
digits_small (c ∷ cs) h = (digit_small c (both _ _ h).0, digits_small cs (both _ _ h).1)

no_plus : (t : Text) → list_all is_digit t ≡ true → without_leading_plus t ≡ t
no_plus [] h = refl
no_plus (c ∷ cs) h =
    let parts = both (nat_le 48 c) (nat_le c 57) (both _ _ h).0 in
    let low : 48 ≤ c = leb-true 48 c parts.0 in
    ap (λ b. drop (cond b 1 0) (c ∷ cs)) (ne_eqb c 43 (λ e. omega arith))

abbrev chosen : Text → Bool → Option ℕ
chosen t b = cond b (Some (digits_value 10 t)) None

pub number_is : {E : Type 0} (t : Text) (r : Result ℕ E) → 0 < length t → length t ≤ 20 → list_all is_digit t ≡ true → ParsesUnsigned 64 10 t r → result_ok r ≡ number_of t
number_is {E} t r some few digits h = go r (subst (λ u. OkIff r (IsNumeral 10 u × (digits_value 10 u < 2 ^ 64)) (digits_value 10 u)) (no_plus t digits) h)
    ∙ sym (λ i. chosen t (((lt-ltb 0 (length t) some i && le-leb (length t) 20 few i) && digits i) && nat_lt (digits_value 10 t) (2 ^ 64)))
  where
    go : (r : Result ℕ E) → OkIff r (IsNumeral 10 t × (digits_value 10 t < 2 ^ 64)) (digits_value 10 t) → result_ok r ≡ chosen t (nat_lt (digits_value 10 t) (2 ^ 64))
    go (Ok n) h = ap Some h.1 ∙ ap (chosen t) (sym (lt-ltb (digits_value 10 t) (2 ^ 64) h.0.1))
    go (Err e) h = ap (chosen t) (sym (false_from_ne_true (nat_lt (digits_value 10 t) (2 ^ 64)) (λ big. h ((some, digits_small t digits), ltb-true (digits_value 10 t) (2 ^ 64) big))))

pub above_zero : (n : ℕ) → false ≡ (n == 0) → 0 < n
above_zero zero h = absurd (true≢false (sym h))
above_zero (suc n) h = omega arith
