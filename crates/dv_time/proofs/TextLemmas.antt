-- Seconds and their texts are one for one.
use Rattle.std.proofs.Common.{◌≡◌, ℕ, ◌+◌, ◌-◌, ◌*◌, ◌/◌, ◌%◌, ◌<◌, ◌≤◌, ◌&&◌, inl, inr, true, false, List, [], ◌∷◌, length, refl, sym, ap, subst, ◌∙◌, arith, pos, take, eqb, leb, ltb, ◌≢◌, Option, Some, None}
use Rattle.std.proofs.lemmas.Bool.{and_parts, and_from, le-leb, lt-ltb, leb-true, ltb-true, eqb-true, cases_Bool, and_right, and_left, ne_eqb}
use Rattle.std.proofs.lemmas.List.{get_or-take, length-take, length-append}
use Rattle.std.proofs.lemmas.List.Folds.{list_all_at}
use Rattle.std.specs.Prelude.{slice_index, MatchOption}
use Rattle.std.specs.List.{list_all}
use Rattle.jiff_core.proofs.CalendarLemmas.{day_count_bounds}
use Rattle.dv_time.specs.declared.civil.Civil.{Civil}
use Rattle.dv_time.specs.Calendar.{days_in_month, is_date, day_number, Date, date_of}
use Rattle.dv_time.specs.Text.{last_second, is_civil, second_of, civil_text, Text, civil_of, text_of, is_digit, two_at, civil_in, has_form, is_generalized, is_utc, century, with_century}
use Rattle.dv_time.proofs.CalendarLemmas.{IsValid, counted, day_number_tied, same_date, in_crate, year_within}

-- ---- dates and times that are there

-- what the test of a date says
pub record IsDated (y m d : ℕ) : Type 0 where
  pub first_year : 1950 ≤ y
  pub last_year : y ≤ 9999
  pub first_month : 1 ≤ m
  pub last_month : m ≤ 12
  pub first_day : 1 ≤ d
  pub last_day : d ≤ days_in_month y m

pub dated : (y m d : ℕ) → is_date y m d ≡ true → IsDated y m d
dated y m d e =
    let a = and_parts _ _ e in
    let b = and_parts _ _ a.0 in
    let years = and_parts _ _ b.0 in
    let months = and_parts _ _ b.1 in
    let days = and_parts _ _ a.1 in
    record {
      first_year = leb-true _ _ years.0;
      last_year = leb-true _ _ years.1;
      first_month = leb-true _ _ months.0;
      last_month = leb-true _ _ months.1;
      first_day = leb-true _ _ days.0;
      last_day = leb-true _ _ days.1;
    }

pub is_dated : (y m d : ℕ) → IsDated y m d → is_date y m d ≡ true
is_dated y m d h =
    and_from _ _ (and_from _ _ (and_from _ _ (le-leb _ _ h.first_year) (le-leb _ _ h.last_year)) (and_from _ _ (le-leb _ _ h.first_month) (le-leb _ _ h.last_month)))
    (and_from _ _ (le-leb _ _ h.first_day) (le-leb _ _ h.last_day))

-- what the test of a date and time says
pub record IsTimed (c : Civil) : Type 0 where
  pub date : IsDated c.year c.month c.day
  pub hour : c.hour < 24
  pub minute : c.minute < 60
  pub second : c.second < 60

pub timed : (c : Civil) → is_civil c ≡ true → IsTimed c
timed c e =
    let a = and_parts _ _ e in
    let b = and_parts _ _ a.1 in
    let h = and_parts _ _ b.0 in
    record { date = dated _ _ _ a.0; hour = ltb-true _ _ h.0; minute = ltb-true _ _ h.1; second = ltb-true _ _ b.1 }

pub is_timed : (c : Civil) → IsTimed c → is_civil c ≡ true
is_timed c h =
    and_from _ _ (is_dated _ _ _ h.date) (and_from _ _ (and_from _ _ (lt-ltb _ _ h.hour) (lt-ltb _ _ h.minute)) (lt-ltb _ _ h.second))

-- ---- the date and time of a second

-- a date as the calendar lemmas have it
abbrev pub date_in : Civil → Date
date_in c = record { year = c.year; month = c.month; day = c.day }

pub valid : (c : Civil) → IsDated c.year c.month c.day → IsValid (date_in c)
valid c h = record { year = h.first_year; first_month = h.first_month; last_month = h.last_month; first_day = h.first_day; last_day = h.last_day }

-- the last day
pub day_within : (c : Civil) → IsDated c.year c.month c.day → day_number c.year c.month c.day ≤ 2940201
day_within c h =
    let bounds = day_count_bounds (pos c.year) c.month c.day (in_crate (date_in c) (valid c h) h.last_year) in
    omega (arith, bounds, day_number_tied c.year c.month c.day h.first_year h.first_day)

-- the date of a date's day number is the date
pub date_again : (y m d : ℕ) → IsDated y m d → date_of (day_number y m d) ≡ record { year = y; month = m; day = d }
date_again y m d h =
    let n : ℕ = day_number y m d in
    let c = counted n in
    let v : IsValid (record { year = y; month = m; day = d }) = record { year = h.first_year; first_month = h.first_month; last_month = h.last_month; first_day = h.first_day; last_day = h.last_day } in
    let tied = day_number_tied y m d h.first_year h.first_day in
    sym (same_date (record { year = y; month = m; day = d }) (date_of n) v c.0 h.last_year (tied ∙ sym c.1))

-- the date and time of the second at which one is, is that one
pub civil_again : (c : Civil) → IsTimed c → civil_of (second_of c) ≡ c
civil_again c h =
    let n : ℕ = day_number c.year c.month c.day in
    let day : second_of c / 86400 ≡ n = omega (arith, h.hour, h.minute, h.second) in
    let hour : second_of c / 3600 % 24 ≡ c.hour = omega (arith, h.hour, h.minute, h.second) in
    let minute : second_of c / 60 % 60 ≡ c.minute = omega (arith, h.hour, h.minute, h.second) in
    let second : second_of c % 60 ≡ c.second = omega (arith, h.hour, h.minute, h.second) in
    rw (day, hour, minute, second, date_again c.year c.month c.day h.date) refl

-- a second up to the last is that of its date and time, which are there
pub second_again : (s : ℕ) → s ≤ last_second → IsTimed (civil_of s) × (second_of (civil_of s) ≡ s)
second_again s le =
    let n : ℕ = s / 86400 in
    let c = counted n in
    let v = c.0 in
    let d : Date = date_of n in
    let year : d.year ≤ 9999 = year_within d v (omega (arith, c.1)) in
    let tied = day_number_tied d.year d.month d.day v.year v.first_day in
    let same : day_number d.year d.month d.day ≡ n = omega (arith, tied, c.1) in (
      record {
        date = record { first_year = v.year; last_year = year; first_month = v.first_month; last_month = v.last_month; first_day = v.first_day; last_day = v.last_day };
        hour = omega arith;
        minute = omega arith;
        second = omega arith;
      },
      rw same (omega arith),
    )

-- ---- a date and time and its text

-- one item and the rest
cons_same : {a b : ℕ} {xs ys : List ℕ} → a ≡ b → xs ≡ ys → a ∷ xs ≡ b ∷ ys
cons_same p q = cc

-- a decimal digit
digit_is : (k : ℕ) → k < 10 → is_digit (48 + k) ≡ true
digit_is k lt = and_from (leb 48 (48 + k)) (leb (48 + k) 57) (le-leb 48 (48 + k) (omega arith)) (le-leb (48 + k) 57 (omega (arith, lt)))

pub digit_bounds : (b : ℕ) → is_digit b ≡ true → (48 ≤ b) × (b ≤ 57)
digit_bounds b e = let a = and_parts (leb 48 b) (leb b 57) e in (leb-true 48 b a.0, leb-true b 57 a.1)

-- a date and time is its parts
same_civil : (a b : Civil) → a.year ≡ b.year → a.month ≡ b.month → a.day ≡ b.day → a.hour ≡ b.hour → a.minute ≡ b.minute → a.second ≡ b.second → a ≡ b
same_civil a b p q r t u v =
    ap (λ (y : ℕ). record { year = y; month = a.month; day = a.day; hour = a.hour; minute = a.minute; second = a.second }) p
    ∙ ap (λ (y : ℕ). record { year = b.year; month = y; day = a.day; hour = a.hour; minute = a.minute; second = a.second }) q
    ∙ ap (λ (y : ℕ). record { year = b.year; month = b.month; day = y; hour = a.hour; minute = a.minute; second = a.second }) r
    ∙ ap (λ (y : ℕ). record { year = b.year; month = b.month; day = b.day; hour = y; minute = a.minute; second = a.second }) t
    ∙ ap (λ (y : ℕ). record { year = b.year; month = b.month; day = b.day; hour = b.hour; minute = y; second = a.second }) u
    ∙ ap (λ (y : ℕ). record { year = b.year; month = b.month; day = b.day; hour = b.hour; minute = b.minute; second = y }) v

-- two digits are their number
two_back : (n : ℕ) → (48 + n / 10 - 48) * 10 + (48 + n % 10 - 48) ≡ n
two_back n = omega arith

-- a text says its date and time
pub read_back : (c : Civil) → IsTimed c → civil_in (civil_text c) ≡ c
read_back c h =
    same_civil (civil_in (civil_text c)) c (omega (arith, two_back (c.year / 100), two_back (c.year % 100))) (two_back c.month) (two_back c.day) (two_back c.hour) (two_back c.minute) (two_back c.second)

-- the longest month
month_long : (y m : ℕ) → days_in_month y m ≤ 31
month_long y m = grind arith

-- and has fourteen digits and Z
pub form_of_text : (c : Civil) → IsTimed c → has_form (civil_text c) ≡ true
form_of_text c h =
    let year = h.date.last_year in
    let month = h.date.last_month in
    let day : c.day ≤ 31 = omega (arith, h.date.last_day, month_long c.year c.month) in
    let hour = h.hour in
    let minute = h.minute in
    let second = h.second in
    let all : list_all is_digit (take 14 (civil_text c)) ≡ true =
    and_from _ _ (digit_is (c.year / 100 / 10) (omega (arith, year))) (
    and_from _ _ (digit_is (c.year / 100 % 10) (omega arith)) (
    and_from _ _ (digit_is (c.year % 100 / 10) (omega arith)) (
    and_from _ _ (digit_is (c.year % 100 % 10) (omega arith)) (
    and_from _ _ (digit_is (c.month / 10) (omega (arith, month))) (
    and_from _ _ (digit_is (c.month % 10) (omega arith)) (
    and_from _ _ (digit_is (c.day / 10) (omega (arith, day))) (
    and_from _ _ (digit_is (c.day % 10) (omega arith)) (
    and_from _ _ (digit_is (c.hour / 10) (omega (arith, hour))) (
    and_from _ _ (digit_is (c.hour % 10) (omega arith)) (
    and_from _ _ (digit_is (c.minute / 10) (omega (arith, minute))) (
    and_from _ _ (digit_is (c.minute % 10) (omega arith)) (
    and_from _ _ (digit_is (c.second / 10) (omega (arith, second))) (
    and_from _ _ (digit_is (c.second % 10) (omega arith)) refl))))))))))))) in
    and_from _ _ (and_from _ _ refl all) refl

-- ---- fourteen digits and Z

-- what the test of the form says
pub record IsForm (x : List ℕ) : Type 0 where
  pub size : length x ≡ 15
  pub digits : list_all is_digit (take 14 x) ≡ true
  pub last : slice_index x 14 ≡ 90

pub formed : (x : List ℕ) → has_form x ≡ true → IsForm x
formed x e =
    let a = and_parts _ _ e in
    let b = and_parts _ _ a.0 in
    record { size = eqb-true _ _ b.0; digits = b.1; last = eqb-true _ _ a.1 }

-- each of the fourteen is a digit
pub digit_at : (x : List ℕ) → IsForm x → (i : ℕ) → i < 14 → is_digit (slice_index x i) ≡ true
digit_at x h i lt =
    let here : slice_index (take 14 x) i ≡ slice_index x i = get_or-take 14 x i 0 lt in
    let inside : i < length (take 14 x) = omega (arith, length-take 14 x, h.size, lt) in
    elim (cases_Bool (is_digit (slice_index x i))) [
      | inl t ↦ t
      | inr f ↦ (let none = list_all_at is_digit (take 14 x) i 0 inside (ap is_digit here ∙ f) in let all = h.digits in absurd cc)
    ]

-- so the number of two of them gives them back
two_again : (x : List ℕ) → IsForm x → (i : ℕ) → i < 13 → (48 + two_at x i / 10 ≡ slice_index x i) × (48 + two_at x i % 10 ≡ slice_index x (i + 1)) × (two_at x i < 100)
two_again x h i lt =
    let a = digit_bounds (slice_index x i) (digit_at x h i (omega arith)) in
    let b = digit_bounds (slice_index x (i + 1)) (digit_at x h (i + 1) (omega arith)) in
    omega (arith, a, b)

-- a list of fifteen
fifteen : (x : List ℕ) → length x ≡ 15 → x ≡ slice_index x 0 ∷ slice_index x 1 ∷ slice_index x 2 ∷ slice_index x 3 ∷ slice_index x 4 ∷ slice_index x 5 ∷ slice_index x 6 ∷ slice_index x 7 ∷ slice_index x 8 ∷ slice_index x 9 ∷ slice_index x 10 ∷ slice_index x 11 ∷ slice_index x 12 ∷ slice_index x 13 ∷ slice_index x 14 ∷ []
fifteen ([]) e = absurd (omega (arith, e))
fifteen (x0 ∷ []) e = absurd (omega (arith, e))
fifteen (x0 ∷ x1 ∷ []) e = absurd (omega (arith, e))
fifteen (x0 ∷ x1 ∷ x2 ∷ []) e = absurd (omega (arith, e))
fifteen (x0 ∷ x1 ∷ x2 ∷ x3 ∷ []) e = absurd (omega (arith, e))
fifteen (x0 ∷ x1 ∷ x2 ∷ x3 ∷ x4 ∷ []) e = absurd (omega (arith, e))
fifteen (x0 ∷ x1 ∷ x2 ∷ x3 ∷ x4 ∷ x5 ∷ []) e = absurd (omega (arith, e))
fifteen (x0 ∷ x1 ∷ x2 ∷ x3 ∷ x4 ∷ x5 ∷ x6 ∷ []) e = absurd (omega (arith, e))
fifteen (x0 ∷ x1 ∷ x2 ∷ x3 ∷ x4 ∷ x5 ∷ x6 ∷ x7 ∷ []) e = absurd (omega (arith, e))
fifteen (x0 ∷ x1 ∷ x2 ∷ x3 ∷ x4 ∷ x5 ∷ x6 ∷ x7 ∷ x8 ∷ []) e = absurd (omega (arith, e))
fifteen (x0 ∷ x1 ∷ x2 ∷ x3 ∷ x4 ∷ x5 ∷ x6 ∷ x7 ∷ x8 ∷ x9 ∷ []) e = absurd (omega (arith, e))
fifteen (x0 ∷ x1 ∷ x2 ∷ x3 ∷ x4 ∷ x5 ∷ x6 ∷ x7 ∷ x8 ∷ x9 ∷ x10 ∷ []) e = absurd (omega (arith, e))
fifteen (x0 ∷ x1 ∷ x2 ∷ x3 ∷ x4 ∷ x5 ∷ x6 ∷ x7 ∷ x8 ∷ x9 ∷ x10 ∷ x11 ∷ []) e = absurd (omega (arith, e))
fifteen (x0 ∷ x1 ∷ x2 ∷ x3 ∷ x4 ∷ x5 ∷ x6 ∷ x7 ∷ x8 ∷ x9 ∷ x10 ∷ x11 ∷ x12 ∷ []) e = absurd (omega (arith, e))
fifteen (x0 ∷ x1 ∷ x2 ∷ x3 ∷ x4 ∷ x5 ∷ x6 ∷ x7 ∷ x8 ∷ x9 ∷ x10 ∷ x11 ∷ x12 ∷ x13 ∷ []) e = absurd (omega (arith, e))
fifteen (x0 ∷ x1 ∷ x2 ∷ x3 ∷ x4 ∷ x5 ∷ x6 ∷ x7 ∷ x8 ∷ x9 ∷ x10 ∷ x11 ∷ x12 ∷ x13 ∷ x14 ∷ []) e = refl
fifteen (x0 ∷ x1 ∷ x2 ∷ x3 ∷ x4 ∷ x5 ∷ x6 ∷ x7 ∷ x8 ∷ x9 ∷ x10 ∷ x11 ∷ x12 ∷ x13 ∷ x14 ∷ x15 ∷ rest) e = absurd (omega (arith, e))

-- the text of what a text says is the text
pub text_again : (x : List ℕ) → IsForm x → civil_text (civil_in x) ≡ x
text_again x h =
    let c0 = two_again x h 0 (omega arith) in
    let c2 = two_again x h 2 (omega arith) in
    let c4 = two_again x h 4 (omega arith) in
    let c6 = two_again x h 6 (omega arith) in
    let c8 = two_again x h 8 (omega arith) in
    let c10 = two_again x h 10 (omega arith) in
    let c12 = two_again x h 12 (omega arith) in
    let century : (two_at x 0 * 100 + two_at x 2) / 100 ≡ two_at x 0 = omega (arith, c2.2) in
    let year : (two_at x 0 * 100 + two_at x 2) % 100 ≡ two_at x 2 = omega (arith, c2.2) in
    cons_same (ap (λ (n : ℕ). 48 + n / 10) century ∙ c0.0) (cons_same (ap (λ (n : ℕ). 48 + n % 10) century ∙ c0.1) (
    cons_same (ap (λ (n : ℕ). 48 + n / 10) year ∙ c2.0) (cons_same (ap (λ (n : ℕ). 48 + n % 10) year ∙ c2.1) (
    cons_same c4.0 (cons_same c4.1 (cons_same c6.0 (cons_same c6.1 (cons_same c8.0 (cons_same c8.1 (
    cons_same c10.0 (cons_same c10.1 (cons_same c12.0 (cons_same c12.1 (cons_same (sym h.last) refl))))))))))))))
    ∙ sym (fifteen x h.size)

-- ---- octets that are a text

-- such octets are the text of a second
pub text_there : (x : List ℕ) → is_generalized x ≡ true → Text (second_of (civil_in x)) x
unfolding is_generalized
text_there x e =
    let a = and_parts _ _ e in
    (civil_in x, a.1, refl, text_again x (formed x a.0))

-- and the text of a second is such octets
pub text_tested : (s : ℕ) (x : List ℕ) → Text s x → is_generalized x ≡ true
unfolding is_generalized
text_tested s x t =
    let h = timed t.0 t.1 in
    let back = read_back t.0 h in
    let P : List ℕ → Type 0 = λ y. (has_form y && is_civil (civil_in y)) ≡ true in
    subst P t.3 (and_from _ _ (form_of_text t.0 h) (ap is_civil back ∙ t.1))

-- ---- what parsing answers

-- octets that aren't the text of a second
pub no_text : (x : List ℕ) → is_generalized x ≡ false → (s : ℕ) → Text s x → ⊥
no_text x f s t = let e = text_tested s x t in cc

-- such an answer is that of the text
pub record IsParsed (x : List ℕ) (r : Option ℕ) : Type 0 where
  pub says : MatchOption r ((s : ℕ) → Text s x → ⊥) (λ m. Text m x)
  pub test : MatchOption r (is_generalized x ≡ false) (λ m. (is_generalized x ≡ true) × (text_of m ≡ x))
  pub only : (s : ℕ) → Text s x → r ≡ Some s

-- none
pub parsed_none : (x : List ℕ) → is_generalized x ≡ false → IsParsed x None
parsed_none x f = record { says = no_text x f; test = f; only = λ s t. absurd (no_text x f s t) }

-- the texts of a second
pub one_text : (s : ℕ) (x : List ℕ) → Text s x → x ≡ text_of s
unfolding text_of
one_text s x t = sym t.3 ∙ ap civil_text (sym (civil_again t.0 (timed t.0 t.1))) ∙ ap text_of t.2

-- and the seconds of a text
pub one_second : (s t : ℕ) (x : List ℕ) → Text s x → Text t x → s ≡ t
one_second s t x a b =
    let here = sym (read_back a.0 (timed a.0 a.1)) ∙ ap civil_in (a.3 ∙ sym b.3) ∙ read_back b.0 (timed b.0 b.1) in
    sym a.2 ∙ ap second_of here ∙ b.2

-- which aren't past the last
pub text_within : (s : ℕ) (x : List ℕ) → Text s x → s ≤ last_second
text_within s x t = let h = timed t.0 t.1 in let d = day_within t.0 h.date in omega (arith, d, t.2, h.hour, h.minute, h.second)

-- the second that the octets say
pub parsed_some : (x : List ℕ) → is_generalized x ≡ true → IsParsed x (Some (second_of (civil_in x)))
parsed_some x e =
    let s : ℕ = second_of (civil_in x) in
    let t = text_there x e in
    record { says = t; test = (e, sym (one_text s x t)); only = λ u w. ap (λ (n : ℕ). Some n) (one_second s u x t w) }

-- which is not past the last
pub parsed_at : (x : List ℕ) (r : Option ℕ) → is_generalized x ≡ true → MatchOption r (last_second < second_of (civil_in x)) (λ m. (m ≡ second_of (civil_in x)) × (second_of (civil_in x) ≤ last_second)) → IsParsed x r
parsed_at x None e h = absurd (omega (arith, h, text_within (second_of (civil_in x)) x (text_there x e)))
parsed_at x (Some m) e h = subst (λ (n : ℕ). IsParsed x (Some n)) (sym h.0) (parsed_some x e)

-- no form, no text
pub formless : (x : List ℕ) → has_form x ≡ false → is_generalized x ≡ false
unfolding is_generalized
formless x e = rw e refl

-- no date and time, no text
pub timeless : (x : List ℕ) → is_civil (civil_in x) ≡ false → is_generalized x ≡ false
unfolding is_generalized
timeless x e = and_right (has_form x) (is_civil (civil_in x)) e

-- both, and there is a text
pub timely : (x : List ℕ) → has_form x ≡ true → is_civil (civil_in x) ≡ true → is_generalized x ≡ true
unfolding is_generalized
timely x e t = and_from (has_form x) (is_civil (civil_in x)) e t

-- two digits say a number below 100, and are no less than 0
pub two_digits : (x : List ℕ) → has_form x ≡ true → (i : ℕ) → i < 13 → (length x ≡ 15) × (48 ≤ slice_index x i) × (48 ≤ slice_index x (i + 1)) × (slice_index x i ≤ 57) × (slice_index x (i + 1) ≤ 57)
two_digits x e i lt =
    let h = formed x e in
    let a = digit_bounds (slice_index x i) (digit_at x h i (omega arith)) in
    let b = digit_bounds (slice_index x (i + 1)) (digit_at x h (i + 1) (omega arith)) in
    (h.size, a.0, b.0, a.1, b.1)

-- ---- UTCTime

-- with its century it has two octets more
century_two : (b : ℕ) → length (century b) ≡ 2
century_two b = elim (cases_Bool (ltb b 53)) [ inl t ↦ rw t refl | inr f ↦ rw f refl ]

pub century_long : (x : List ℕ) → length (with_century x) ≡ 2 + length x
century_long x = omega (arith, length-append (century (slice_index x 0)) x, century_two (slice_index x 0))

-- no UTCTime of another length
pub utc_long : (x : List ℕ) → length x ≢ 13 → is_utc x ≡ false
unfolding is_utc
utc_long x ne =
    let other : eqb (length (with_century x)) 15 ≡ false = ne_eqb _ 15 (λ (e : length (with_century x) ≡ 15). ne (omega (arith, e, century_long x))) in
    formless (with_century x) (and_left _ _ (and_left (eqb (length (with_century x)) 15) _ other))
