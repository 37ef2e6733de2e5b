-- Day numbers are one for one with dates, and are those of the calendar's crate.
use Rattle.std.proofs.Common.{◌≡◌, ℕ, zero, suc, ◌+◌, ◌-◌, ◌<◌, ◌≤◌, inl, inr, ltb, refl, sym, ap, ◌∙◌, arith, pos, ◌-ℤ◌, rules}
use Rattle.std.proofs.lemmas.Bool.{cases_Bool, cases_order, ltb-true, ltb-false}
use Rattle.jiff_core.specs.Calendar as calendar
use Rattle.jiff_core.specs.Calendar.{days_of_years as years_before, days_of_months as months_before, day_count, IsCivilDate}
use Rattle.jiff_core.proofs.SignedLemmas.{signed_arith}
use Rattle.jiff_core.proofs.MarchLemmas.{days_of_years-march_days, day_count-early}
use Rattle.jiff_core.proofs.CalendarLemmas.{day_count-lt_year, day_count-lt_month, day_count-day, day_count-next_month, day_count-next_year, day_count-last_of_year, day_count-end, days_in_month_bounds}
use Rattle.dv_time.specs.Calendar.{days_in_year, days_in_month, days_of_years, days_of_months, day_number, Date, day_after, date_of}

-- ---- day numbers and the day counts of the calendar's crate

-- the same months
months_tied : (y n : ℕ) → months_before (pos y) n ≡ days_of_months y n
unfolding months_before days_of_months
months_tied y zero = refl
months_tied y (suc n) = ap (λ (k : ℕ). k + days_in_month y (suc n)) (months_tied y n)

-- the days before 1950
before_1950 : years_before 11950 ≡ 4364648
before_1950 = omega (arith, days_of_years-march_days 11950)

-- the same years
pub years_tied : (n : ℕ) → years_before (11950 + n) ≡ 4364648 + days_of_years n
unfolding years_before days_of_years
years_tied zero = before_1950
years_tied (suc n) =
    let year : pos (11950 + n) -ℤ pos 10000 ≡ pos (1950 + n) = omega (arith, signed_arith) in
    let same : calendar.days_in_year (pos (11950 + n) -ℤ pos 10000) ≡ days_in_year (1950 + n) = rw year refl in
    let more : 11950 + suc n ≡ suc (11950 + n) = omega arith in
    rw more (omega (arith, same, years_tied n))

-- a day count is a day number and the days before 1950
pub day_number_tied : (y m d : ℕ) → 1950 ≤ y → 1 ≤ d → day_count (pos y) m d ≡ 4364648 + day_number y m d
unfolding day_count
day_number_tied y m d low first =
    let n : ℕ = y - 1950 in
    let e : y + 10000 ≡ 11950 + n = omega arith in
    rw e (omega (arith, years_tied n, months_tied y (m - 1)))

-- ---- the date of a day number

-- a date of the calendar, of whichever year
pub record IsValid (e : Date) : Type 0 where
  pub year : 1950 ≤ e.year
  pub first_month : 1 ≤ e.month
  pub last_month : e.month ≤ 12
  pub first_day : 1 ≤ e.day
  pub last_day : e.day ≤ days_in_month e.year e.month

-- how many days lie before it
abbrev pub count_of : Date → ℕ
count_of e = day_count (pos e.year) e.month e.day

-- the day after it is the next one
next : (e : Date) → IsValid e → IsValid (day_after e) × (count_of (day_after e) ≡ count_of e + 1)
next e v =
    let y : ℕ = e.year in
    let m : ℕ = e.month in
    let d : ℕ = e.day in
    elim (cases_Bool (ltb d (days_in_month y m))) [
      | inl t ↦
          let lt : d < days_in_month y m = ltb-true _ _ t in
          let day = day_count-day (pos y) m d (d + 1) v.first_day (omega arith) in
          rw t (record { year = v.year; first_month = v.first_month; last_month = v.last_month; first_day = omega arith; last_day = omega (arith, lt) }, omega (arith, day))
      | inr f ↦
          let last : d ≡ days_in_month y m = omega (arith, v.last_day, ltb-false _ _ f) in
          let day = day_count-day (pos y) m d 1 v.first_day (omega arith) in
          elim (cases_Bool (ltb m 12)) [
            | inl t ↦
                let lt : m < 12 = ltb-true _ _ t in
                let long = days_in_month_bounds (pos y) (m + 1) in
                let month = day_count-next_month (pos y) m v.first_month in
                rw (f, t) (record { year = v.year; first_month = omega arith; last_month = omega (arith, lt); first_day = omega arith; last_day = omega (arith, long) }, omega (arith, day, month, last))
            | inr g ↦
                let december : m ≡ 12 = omega (arith, v.last_month, ltb-false _ _ g) in
                let last_one : d ≡ 31 = last ∙ (rw december refl) in
                let here = day_count-last_of_year (pos y) in
                let there = day_count-next_year (pos y) (pos (y + 1)) (omega (arith, signed_arith)) (omega (arith, signed_arith)) in
                rw (f, g, december, last_one) (record { year = omega (arith, v.year); first_month = omega arith; last_month = omega arith; first_day = omega arith; last_day = omega arith }, omega (arith, here, there))
          ]
    ]

-- the date of a day number is one of the calendar, and has the number
pub counted : (n : ℕ) → IsValid (date_of n) × (count_of (date_of n) ≡ 4364648 + n)
unfolding date_of
counted zero =
    (record { year = omega arith; first_month = omega arith; last_month = omega arith; first_day = omega arith; last_day = omega arith }, day_count-early (pos 1950) 11949 1 1 refl (omega arith) (omega arith) (omega arith))
counted (suc n) =
    let h = counted n in
    let k = next (date_of n) h.0 in
    (k.0, omega (arith, k.1, h.1))

-- the calendar's crate has a date whose year has four digits
pub in_crate : (e : Date) → IsValid e → e.year ≤ 9999 → IsCivilDate (pos e.year) e.month e.day
in_crate e v le = ((omega (arith, signed_arith), omega (arith, signed_arith)), (v.first_month, v.last_month), (v.first_day, v.last_day))

-- dates with one count and one year have one month and one day
same_in_year : (y m d m₂ d₂ : ℕ) → IsCivilDate (pos y) m d → IsCivilDate (pos y) m₂ d₂ → day_count (pos y) m d ≡ day_count (pos y) m₂ d₂ → (m ≡ m₂) × (d ≡ d₂)
same_in_year y m d m₂ d₂ h k e =
    elim (cases_order m m₂) [
      | inl month ↦
          let days = day_count-day (pos y) m d d₂ h.2.0 k.2.0 in
          (month, omega (arith, days, rw (← month) at e))
      | inr (inl lt) ↦ absurd (omega (arith, day_count-lt_month (pos y) m d m₂ d₂ h k.2.0 lt))
      | inr (inr gt) ↦ absurd (omega (arith, day_count-lt_month (pos y) m₂ d₂ m d k h.2.0 gt))
    ]

-- a date is its parts
same_parts : (a b : Date) → a.year ≡ b.year → a.month ≡ b.month → a.day ≡ b.day → a ≡ b
same_parts a b p q r =
    ap (λ (y : ℕ). record { year = y; month = a.month; day = a.day }) p
    ∙ ap (λ (m : ℕ). record { year = b.year; month = m; day = a.day }) q
    ∙ ap (λ (d : ℕ). record { year = b.year; month = b.month; day = d }) r

-- dates with one count are the same
pub same_date : (a b : Date) → IsValid a → IsValid b → a.year ≤ 9999 → count_of a ≡ count_of b → a ≡ b
same_date a b v w le e =
    elim (cases_order a.year b.year) [
      | inl year ↦
          let inside : IsCivilDate (pos a.year) b.month b.day = rw year (in_crate b w (omega (arith, year, le))) in
          let count : day_count (pos a.year) a.month a.day ≡ day_count (pos a.year) b.month b.day = e ∙ ap (λ (y : ℕ). day_count (pos y) b.month b.day) (sym year) in
          let parts = same_in_year a.year a.month a.day b.month b.day (in_crate a v le) inside count in
          same_parts a b year parts.0 parts.1
      | inr (inl lt) ↦ absurd (omega (arith, e, day_count-lt_year (pos a.year) a.month a.day (pos b.year) b.month b.day (in_crate a v le) w.first_day (omega (arith, signed_arith, lt))))
      | inr (inr gt) ↦ absurd (omega (arith, e, day_count-lt_year (pos b.year) b.month b.day (pos a.year) a.month a.day (in_crate b w (omega (arith, gt, le))) v.first_day (omega (arith, signed_arith, gt))))
    ]

-- the last day of 9999
pub last_count : day_count (pos 9999) 12 31 ≡ 7304849
last_count =
    omega (arith, day_count-end, day_count-last_of_year (pos 9999), day_count-next_year (pos 9999) (pos 10000) (search rules) refl)

-- up to it years have four digits
pub year_within : (e : Date) → IsValid e → count_of e ≤ 7304849 → e.year ≤ 9999
year_within e v le =
    elim (cases_order e.year 9999) [
      | inl same ↦ omega (arith, same)
      | inr (inl lt) ↦ omega (arith, lt)
      | inr (inr gt) ↦
          let last : IsCivilDate (pos 9999) 12 31 = (search rules, search rules, search rules) in
          absurd (omega (arith, last_count, day_count-lt_year (pos 9999) 12 31 (pos e.year) e.month e.day last v.first_day (omega (arith, signed_arith, gt))))
    ]
