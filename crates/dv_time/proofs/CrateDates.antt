-- Dates of the calendar's crate, by their day numbers.
use Rattle.std.proofs.Common.{◌≡◌, ℕ, ◌+◌, ◌≤◌, refl, sym, ◌∙◌, arith, ℤ, pos, negsuc, ◌+ℤ◌, ◌≤ℤ◌}
use Rattle.std.proofs.lemmas.Int.{by_lt_z}
use Rattle.jiff_core.specs.declared.civil.date.Date.{Date as CrateDate}
use Rattle.jiff_core.specs.Calendar.{day_count, IsCivilDate}
use Rattle.jiff_core.specs.Date.{epoch_day}
use Rattle.jiff_core.proofs.SignedLemmas.{signed_arith}
use Rattle.jiff_core.proofs.DateLemmas.{civil}
use Rattle.jiff_core.proofs.CalendarLemmas.{days_from_civil-day_count, day_count-lt_year}
use Rattle.jiff_core.proofs.MarchLemmas.{day_count-early}
use Rattle.dv_time.specs.Calendar.{date_of, day_number}
use Rattle.dv_time.proofs.CalendarLemmas.{IsValid, counted, same_date, day_number_tied}
use Rattle.dv_time.proofs.TextLemmas.{IsDated}

-- a year that isn't negative is a number
year_is : (y : ℤ) → pos 1950 ≤ℤ y → (k : ℕ) × (y ≡ pos k) × (1950 ≤ k)
year_is (pos k) h = (k, refl, omega (arith, signed_arith))
year_is (negsuc k) h = absurd (omega (arith, signed_arith))

-- a date from 1950 on, by its day count
from_1950 : (d : CrateDate) → 4364648 ≤ day_count d.year d.month d.day → pos 1950 ≤ℤ d.year
from_1950 d h =
    by_lt_z d.year (pos 1950)
    (λ lt. absurd (omega (arith, h, day_count-early (pos 1950) 11949 1 1 refl (omega arith) (omega arith) (omega arith), day_count-lt_year d.year d.month d.day (pos 1950) 1 1 (civil d) (omega arith) lt)))
    (λ ge. omega (arith, signed_arith, ge))

-- the date so many days after 1950-01-01
pub date_after : (d : CrateDate) (n : ℕ) → epoch_day d +ℤ pos 4371587 ≡ pos (4364282 + n) → (k : ℕ) × (d.year ≡ pos k) × (k ≤ 9999) × (date_of n ≡ record { year = k; month = d.month; day = d.day })
date_after d n e =
    let count : day_count d.year d.month d.day ≡ 4364648 + n = omega (arith, signed_arith, days_from_civil-day_count d.year d.month d.day, e) in
    let y = year_is d.year (from_1950 d (omega (arith, count))) in
    let k : ℕ = y.0 in
    let here : IsCivilDate (pos k) d.month d.day = rw y.1 at (civil d) in
    let high : k ≤ 9999 = omega (arith, signed_arith, here.0.1) in
    let there : day_count (pos k) d.month d.day ≡ 4364648 + n = rw y.1 at count in
    let c = counted n in
    let v : IsValid (record { year = k; month = d.month; day = d.day }) = record { year = y.2; first_month = here.1.0; last_month = here.1.1; first_day = here.2.0; last_day = here.2.1 } in
    (k, y.1, high, sym (same_date (record { year = k; month = d.month; day = d.day }) (date_of n) v c.0 high (there ∙ sym c.1)))

-- the number of the crate's date with these parts
pub date_made : (e : CrateDate) (y m d n : ℕ) → e.year ≡ pos y → e.month ≡ m → e.day ≡ d → 1950 ≤ y → epoch_day e +ℤ pos 4371587 ≡ pos n → IsDated y m d × (n ≡ 4364282 + day_number y m d)
date_made e y m d n p q r low h =
    let here : IsCivilDate (pos y) m d = rw (p, q, r) at (civil e) in
    let count : day_count (pos y) m d ≡ day_count e.year e.month e.day = rw (p, q, r) refl in
    let number : day_count e.year e.month e.day ≡ n + 366 = omega (arith, signed_arith, days_from_civil-day_count e.year e.month e.day, h) in
    let tied = day_number_tied y m d low here.2.0 in (
      record {
        first_year = low;
        last_year = omega (arith, signed_arith, here.0.1);
        first_month = here.1.0;
        last_month = here.1.1;
        first_day = here.2.0;
        last_day = here.2.1;
      },
      omega (arith, count, number, tied),
    )
