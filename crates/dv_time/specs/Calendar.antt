-- Civil dates of the Gregorian calendar from 1950 on (ISO 8601), and their day numbers, which count from 1950-01-01.
use Rattle.std.specs.Prelude.{ℕ, zero, suc, ◌+◌, ◌-◌, ◌%◌, Bool, not, ◌&&◌, ◌||◌, ◌==◌, nat_lt, nat_le, if◌then◌else◌}

-- every fourth year, but of the centuries only every fourth
abbrev pub is_leap_year : ℕ → Bool
is_leap_year y = (y % 4 == 0) && (not (y % 100 == 0) || (y % 400 == 0))

-- the days of a year
abbrev pub days_in_year : ℕ → ℕ
days_in_year y = if is_leap_year y then 366 else 365

-- the days of a month: thirty have April, June, September and November
abbrev pub days_in_month : ℕ → ℕ → ℕ
days_in_month y m =
    if m == 2 then (if is_leap_year y then 29 else 28) else
    (if (m == 4) || (m == 6) || (m == 9) || (m == 11) then 30 else 31)

-- the calendar has this day, and its year has four digits
abbrev pub is_date : ℕ → ℕ → ℕ → Bool
is_date y m d =
    (nat_le 1950 y && nat_le y 9999) && (nat_le 1 m && nat_le m 12) && (nat_le 1 d && nat_le d (days_in_month y m))

-- the days of the first n years from 1950 on
unfoldable pub days_of_years : ℕ → ℕ
days_of_years zero = 0
days_of_years (suc n) = days_of_years n + days_in_year (1950 + n)

-- the days of the first n months of a year
unfoldable pub days_of_months : ℕ → ℕ → ℕ
days_of_months y zero = 0
days_of_months y (suc n) = days_of_months y n + days_in_month y (suc n)

-- how many days lie between 1950-01-01 and a date
abbrev pub day_number : ℕ → ℕ → ℕ → ℕ
day_number y m d = days_of_years (y - 1950) + days_of_months y (m - 1) + (d - 1)

-- a date
pub record Date : Type 0 where
  pub year : ℕ
  pub month : ℕ
  pub day : ℕ

-- the day after it
abbrev pub day_after : Date → Date
day_after d =
    if nat_lt d.day (days_in_month d.year d.month) then record { year = d.year; month = d.month; day = d.day + 1 } else
    if nat_lt d.month 12 then record { year = d.year; month = d.month + 1; day = 1 } else
    record { year = d.year + 1; month = 1; day = 1 }

-- the date that lies n days after 1950-01-01
unfoldable pub date_of : ℕ → Date
date_of zero = record { year = 1950; month = 1; day = 1 }
date_of (suc n) = day_after (date_of n)
