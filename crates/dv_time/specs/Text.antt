-- Moments and their texts: seconds are counted from 1950-01-01T00:00:00Z, with no leap seconds.
--
-- The text of a moment is its civil date and time as `YYYYMMDDHHMMSSZ`, the contents of a GeneralizedTime (X.680 46; X.690 11.7). A
-- UTCTime (X.680 47; X.690 11.8) has the same text without its first two digits, for the years from 1950 to 2049 (RFC 5280 4.1.2.5.1).
use Rattle.std.specs.Prelude.{◌≡◌, ℕ, ◌+◌, ◌-◌, ◌*◌, ◌/◌, ◌%◌, ◌≤◌, Bool, ◌&&◌, ◌==◌, nat_lt, nat_le, IsTrue, if◌then◌else◌, List, [], ◌∷◌, ◌++◌, length, take, drop, slice_index}
use Rattle.std.specs.List.{list_all}
use Rattle.dv_time.specs.declared.civil.Civil.{Civil}
use Rattle.dv_time.specs.Calendar.{is_date, day_number, date_of}

-- the last second: 9999-12-31T23:59:59Z
abbrev pub last_second : ℕ
last_second = 254_033_452_799

-- the first second of 2050
abbrev pub first_late : ℕ
first_late = 3_155_760_000

-- a date of the calendar, and a time of day
abbrev pub is_civil : Civil → Bool
is_civil c = is_date c.year c.month c.day && (nat_lt c.hour 24 && nat_lt c.minute 60 && nat_lt c.second 60)

-- the second at which it is
abbrev pub second_of : Civil → ℕ
second_of c = day_number c.year c.month c.day * 86_400 + (c.hour * 3600 + c.minute * 60 + c.second)

-- a number below 100 as two decimal digits
abbrev pub two : ℕ → List ℕ
two n = (48 + n / 10) ∷ (48 + n % 10) ∷ []

-- year, month, day, hour, minute and second as digits, and then Z
abbrev pub civil_text : Civil → List ℕ
civil_text c = two (c.year / 100) ++ two (c.year % 100) ++ two c.month ++ two c.day ++ two c.hour ++ two c.minute ++ two c.second ++ 90 ∷ []

-- the text of a second
abbrev pub Text : ℕ → List ℕ → Type 0
Text s x = (c : Civil) × IsTrue (is_civil c) × (second_of c ≡ s) × (civil_text c ≡ x)

-- its text in a UTCTime
abbrev pub ShortText : ℕ → List ℕ → Type 0
ShortText s x = (c : Civil) × IsTrue (is_civil c) × (c.year ≤ 2049) × (second_of c ≡ s) × (drop 2 (civil_text c) ≡ x)

-- ---- the texts as values

-- the date and time of a second
abbrev pub civil_of : ℕ → Civil
civil_of s =
    record {
      year = (date_of (s / 86_400)).year;
      month = (date_of (s / 86_400)).month;
      day = (date_of (s / 86_400)).day;
      hour = s / 3600 % 24;
      minute = s / 60 % 60;
      second = s % 60;
    }

-- its text
unfoldable pub text_of : ℕ → List ℕ
text_of s = civil_text (civil_of s)

-- ---- octets that are the text of a moment

-- a decimal digit
abbrev pub is_digit : ℕ → Bool
is_digit b = nat_le 48 b && nat_le b 57

-- the number of the two digits at a place
abbrev pub two_at : List ℕ → ℕ → ℕ
two_at x i = (slice_index x i - 48) * 10 + (slice_index x (i + 1) - 48)

-- the date and time of fourteen digits
abbrev pub civil_in : List ℕ → Civil
civil_in x =
    record {
      year = two_at x 0 * 100 + two_at x 2;
      month = two_at x 4;
      day = two_at x 6;
      hour = two_at x 8;
      minute = two_at x 10;
      second = two_at x 12;
    }

-- fourteen digits and Z
abbrev pub has_form : List ℕ → Bool
has_form x = (length x == 15) && list_all is_digit (take 14 x) && (slice_index x 14 == 90)

-- the contents of a GeneralizedTime: a civil date and time from 1950 on
unfoldable pub is_generalized : List ℕ → Bool
is_generalized x = has_form x && is_civil (civil_in x)

-- such contents of the years from 2050 on
unfoldable pub is_late : List ℕ → Bool
is_late x = is_generalized x && nat_le 2050 (civil_in x).year

-- the first two digits of the year of a UTCTime, by its first digit: 20 where the others are below 50, else 19
abbrev pub century : ℕ → List ℕ
century first = if nat_lt first 53 then 50 ∷ 48 ∷ [] else 49 ∷ 57 ∷ []

-- the contents of a UTCTime with them
abbrev pub with_century : List ℕ → List ℕ
with_century x = century (slice_index x 0) ++ x

-- the contents of a UTCTime
unfoldable pub is_utc : List ℕ → Bool
is_utc x = is_generalized (with_century x)
