-- The text of a moment is ASCII.
use Rattle.std.proofs.Common.{◌≡◌, ◌+◌, ◌/◌, ◌%◌, ◌<◌, ◌≤◌, ◌==◌, ◌&&◌, ◌||◌, ◌++◌, if◌then◌else◌, nat_le, zero, suc, ℕ, nat_lt, Bool, true, false, cond, List, [], ◌∷◌, subst, arith}
use Rattle.std.proofs.lemmas.Bool.{and_parts, leb-true, ltb-true}
use Rattle.std.proofs.lemmas.Str.{IsUtf8-from_ascii}
use Rattle.std.specs.List.{AllByRecursion}
use Rattle.std.specs.Str.{IsAscii, IsUtf8}
use Rattle.dv_time.specs.Calendar.{days_in_month, is_date, is_leap_year}
use Rattle.dv_time.specs.Text.{Text, two}

ascii_all : (xs : List ℕ) → AllByRecursion (λ b. b < 128) xs → IsAscii xs
ascii_all [] h i = omega arith
ascii_all (x ∷ xs) h zero = h.0
ascii_all (x ∷ xs) h (suc i) = ascii_all xs h.1 i

one_of : (b : Bool) (m n : ℕ) → m ≤ 31 → n ≤ 31 → cond b m n ≤ 31
one_of true m n h i = h
one_of false m n h i = i

few_days : (y m : ℕ) → days_in_month y m ≤ 31
few_days y m =
    let long = (m == 4) || (m == 6) || (m == 9) || (m == 11) in
    one_of (m == 2) (if is_leap_year y then 29 else 28) (if long then 30 else 31) (one_of (is_leap_year y) 29 28 (omega arith) (omega arith)) (one_of long 30 31 (omega arith) (omega arith))

-- the digits of a number below 100
two_ascii : (n : ℕ) → n ≤ 99 → (48 + n / 10 < 128) × (48 + n % 10 < 128)
two_ascii n le = (omega arith, omega arith)

-- a date and a time of day
abbrev text_with : (y m d h n s : ℕ) → List ℕ
text_with y m d h n s = two (y / 100) ++ two (y % 100) ++ two m ++ two d ++ two h ++ two n ++ two s ++ 90 ∷ []

civil_ascii : (y m d h n s : ℕ) → (is_date y m d && (nat_lt h 24 && nat_lt n 60 && nat_lt s 60)) ≡ true
    → AllByRecursion (λ b. b < 128) (text_with y m d h n s)
civil_ascii y m d h n s e =
    let a = and_parts (is_date y m d) (nat_lt h 24 && nat_lt n 60 && nat_lt s 60) e in
    let date = and_parts ((nat_le 1950 y && nat_le y 9999) && (nat_le 1 m && nat_le m 12)) (nat_le 1 d && nat_le d (days_in_month y m)) a.0 in
    let front = and_parts (nat_le 1950 y && nat_le y 9999) (nat_le 1 m && nat_le m 12) date.0 in
    let years = leb-true y 9999 (and_parts (nat_le 1950 y) (nat_le y 9999) front.0).1 in
    let months = leb-true m 12 (and_parts (nat_le 1 m) (nat_le m 12) front.1).1 in
    let days = leb-true d (days_in_month y m) (and_parts (nat_le 1 d) (nat_le d (days_in_month y m)) date.1).1 in
    let clock = and_parts (nat_lt h 24 && nat_lt n 60) (nat_lt s 60) a.1 in
    let hand = and_parts (nat_lt h 24) (nat_lt n 60) clock.0 in
    let hours = ltb-true h 24 hand.0 in
    let minutes = ltb-true n 60 hand.1 in
    let seconds = ltb-true s 60 clock.1 in
    let century = two_ascii (y / 100) (omega (arith, years)) in
    let year = two_ascii (y % 100) (omega arith) in
    let month = two_ascii m (omega (arith, months)) in
    let day = two_ascii d (omega (arith, days, few_days y m)) in
    let hour = two_ascii h (omega (arith, hours)) in
    let minute = two_ascii n (omega (arith, minutes)) in
    let second = two_ascii s (omega (arith, seconds)) in
    (century.0, (century.1, (year.0, (year.1, (month.0, (month.1, (day.0, (day.1, (hour.0, (hour.1, (minute.0, (minute.1, (second.0, (second.1, (omega arith, tt)))))))))))))))

pub text_is_utf8 : (s : ℕ) (x : List ℕ) → Text s x → IsUtf8 x
text_is_utf8 s x t =
    let text : List ℕ = text_with t.0.year t.0.month t.0.day t.0.hour t.0.minute t.0.second in
    IsUtf8-from_ascii x (subst IsAscii t.3 (ascii_all text (civil_ascii t.0.year t.0.month t.0.day t.0.hour t.0.minute t.0.second t.1)))
