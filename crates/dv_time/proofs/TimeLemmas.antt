-- The two forms of a Time.
use Rattle.std.proofs.Common.{◌≡◌, ℕ, ◌+◌, ◌/◌, ◌%◌, ◌<◌, ◌≤◌, ◌⊎◌, inl, inr, true, false, List, ◌∷◌, length, drop, Option, Some, None, Result, Ok, Err, refl, sym, ap, subst, ◌∙◌, arith, pos, ltb, leb}
use Rattle.std.proofs.lemmas.Bool.{and_parts, and_from, and_left, and_right, le-leb, lt-ltb, leb-true, ltb-true, ltb-false, cases_Bool, cases_order, le-ltb}
use Rattle.std.specs.Prelude.{slice_index, MatchOption, IfOk}
use Rattle.jiff_core.specs.Calendar.{day_count}
use Rattle.jiff_core.proofs.SignedLemmas.{signed_arith}
use Rattle.jiff_core.proofs.MarchLemmas.{day_count-early}
use Rattle.jiff_core.proofs.CalendarLemmas.{day_count-lt_year, day_count-day_of_year}
use Rattle.dv_schema.specs.declared.refusal.Der.{Der}
use Rattle.dv_schema.specs.Schema.{Schema, choice, ValueOf, spelling, starts}
use Rattle.dv_schema.specs.Reading.{Spot, ◌>>=◌, starts_list, read}
use Rattle.dv_schema.specs.Answers.{Reads}
use Rattle.dv_schema.specs.Fits.{Fits}
use Rattle.dv_schema.specs.Types.{primitive}
use Rattle.dv_time.specs.declared.civil.Civil.{Civil}
use Rattle.dv_time.specs.Calendar.{day_number}
use Rattle.dv_time.specs.Text.{first_late, last_second, second_of, civil_text, civil_of, civil_in, Text, ShortText, text_of, is_generalized, is_late, is_utc, with_century}
use Rattle.dv_time.specs.Types.{generalized_time, time}
use Rattle.dv_time.specs.Views.{view_moment, view_time}
use Rattle.dv_time.proofs.CalendarLemmas.{day_number_tied, in_crate}
use Rattle.dv_time.proofs.TextLemmas.{IsDated, IsTimed, timed, is_timed, valid, second_again, read_back, text_there, text_tested, one_text, one_second, two_digits}

-- ---- 2050

-- 1 January 2050
late_count : day_count (pos 2050) 1 1 ≡ 4401173
late_count = day_count-early (pos 2050) 12049 1 1 refl (omega arith) (omega arith) (omega arith)

-- the dates before it
early_day : (c : Civil) → IsDated c.year c.month c.day → c.year ≤ 2049 → day_number c.year c.month c.day < 36525
early_day c h le =
    let inside = in_crate (record { year = c.year; month = c.month; day = c.day }) (valid c h) h.last_year in
    let before = day_count-lt_year (pos c.year) c.month c.day (pos 2050) 1 1 inside (omega arith) (omega (arith, signed_arith, le)) in
    omega (arith, late_count, before, day_number_tied c.year c.month c.day h.first_year h.first_day)

-- and those from it on
late_day : (c : Civil) → IsDated c.year c.month c.day → 2050 ≤ c.year → 36525 ≤ day_number c.year c.month c.day
late_day c h le =
    let tied = day_number_tied c.year c.month c.day h.first_year h.first_day in
    let first = day_count-day_of_year (pos c.year) c.month c.day h.first_day in
    let d = h.first_day in
    elim (cases_order 2050 c.year) [
      | inl same ↦
          let here : day_count (pos c.year) 1 1 ≡ 4401173 = ap (λ (y : ℕ). day_count (pos y) 1 1) (sym same) ∙ late_count in
          omega (arith, here, tied, first, d)
      | inr (inl lt) ↦
          let new_year = in_crate (record { year = 2050; month = 1; day = 1 }) (record { year = omega arith; first_month = omega arith; last_month = omega arith; first_day = omega arith; last_day = omega arith }) (omega arith) in
          let before = day_count-lt_year (pos 2050) 1 1 (pos c.year) c.month c.day new_year h.first_day (omega (arith, signed_arith, lt)) in
          omega (arith, late_count, before, tied)
      | inr (inr gt) ↦ absurd (omega (arith, gt, le))
    ]

-- a second is before 2050 exactly where its year is
pub early_year : (c : Civil) → IsTimed c → second_of c < first_late → c.year ≤ 2049
early_year c h lt =
    elim (cases_order c.year 2050) [
      | inl same ↦ absurd (omega (arith, late_day c h.date (omega (arith, same)), lt))
      | inr (inl less) ↦ omega (arith, less)
      | inr (inr gt) ↦ absurd (omega (arith, late_day c h.date (omega (arith, gt)), lt))
    ]

pub early_second : (c : Civil) → IsTimed c → c.year ≤ 2049 → second_of c < first_late
early_second c h le = omega (arith, early_day c h.date le, h.hour, h.minute, h.second)

pub late_second : (c : Civil) → IsTimed c → 2050 ≤ c.year → first_late ≤ second_of c
late_second c h le = omega (arith, late_day c h.date le)

-- ---- a GeneralizedTime from 2050 on

pub late_there : (m : ℕ) (x : List ℕ) → Text m x → first_late ≤ m → is_late x ≡ true
unfolding is_late
late_there m x t le =
    let h = timed t.0 t.1 in
    let say : civil_in x ≡ t.0 = ap civil_in (sym t.3) ∙ read_back t.0 h in
    let same : (civil_in x).year ≡ t.0.year = ap (λ (c : Civil). c.year) say in
    let late : 2050 ≤ t.0.year = elim (cases_order t.0.year 2050) [
      | inl at ↦ omega (arith, at)
      | inr (inl less) ↦ absurd (omega (arith, early_second t.0 h (omega (arith, less)), t.2, le))
      | inr (inr gt) ↦ omega (arith, gt)
    ] in
    let year : 2050 ≤ (civil_in x).year = subst (λ (n : ℕ). 2050 ≤ n) (sym same) late in
    and_from (is_generalized x) (leb 2050 (civil_in x).year) (text_tested m x t) (le-leb _ _ year)

pub late_not : (m : ℕ) (x : List ℕ) → Text m x → m < first_late → is_late x ≡ false
unfolding is_late
late_not m x t lt =
    let h = timed t.0 t.1 in
    let say : civil_in x ≡ t.0 = ap civil_in (sym t.3) ∙ read_back t.0 h in
    let same : (civil_in x).year ≡ t.0.year = ap (λ (c : Civil). c.year) say in
    let year : (civil_in x).year ≤ 2049 = subst (λ (n : ℕ). n ≤ 2049) (sym same) (early_year t.0 h (omega (arith, t.2, lt))) in
    elim (cases_Bool (leb 2050 (civil_in x).year)) [
      | inl e ↦ absurd (omega (arith, leb-true 2050 (civil_in x).year e, year))
      | inr f ↦ and_right (is_generalized x) (leb 2050 (civil_in x).year) f
    ]

pub late_none : (x : List ℕ) → is_generalized x ≡ false → is_late x ≡ false
unfolding is_late
late_none x f = and_left (is_generalized x) (leb 2050 (civil_in x).year) f

-- ---- a UTCTime

-- without its century
pub drop_century : (x : List ℕ) → drop 2 (with_century x) ≡ x
drop_century x = elim (cases_Bool (ltb (slice_index x 0) 53)) [ inl t ↦ rw t refl | inr f ↦ rw f refl ]

-- the year that it says is before 2050
pub short_year : (x : List ℕ) → is_utc x ≡ true → (civil_in (with_century x)).year ≤ 2049
unfolding is_utc is_generalized
short_year x e =
    let form = (and_parts _ _ e).0 in
    let a = two_digits (with_century x) form 2 (omega arith) in
    elim (cases_Bool (ltb (slice_index x 0) 53)) [
      | inl t ↦ let lt = ltb-true _ _ t in let b = rw t at a in rw t (omega (arith, lt, b))
      | inr f ↦ let b = rw f at a in rw f (omega (arith, b))
    ]

-- it is that of a second before 2050
pub short_there : (x : List ℕ) → is_utc x ≡ true → (m : ℕ) → text_of m ≡ with_century x → Text m (with_century x) → (drop 2 (text_of m) ≡ x) × (m < first_late)
unfolding is_utc
short_there x e m same t =
    let h = timed t.0 t.1 in
    let say : civil_in (with_century x) ≡ t.0 = ap civil_in (sym t.3) ∙ read_back t.0 h in
    let year : t.0.year ≤ 2049 = subst (λ (n : ℕ). n ≤ 2049) (ap (λ (c : Civil). c.year) say) (short_year x e) in
    (ap (drop 2) same ∙ drop_century x, omega (arith, t.2, early_second t.0 h year))

-- the first two digits of such a year
pub century_of_year : (c : Civil) → 1950 ≤ c.year → c.year ≤ 2049 → with_century (drop 2 (civil_text c)) ≡ civil_text c
century_of_year c low high =
    elim (cases_Bool (ltb c.year 2000)) [
      | inl e ↦
          let lt = ltb-true _ _ e in
          let y : c.year / 100 ≡ 19 = omega (arith, low, lt) in
          let f : ltb (48 + c.year % 100 / 10) 53 ≡ false = le-ltb _ _ (omega (arith, low, lt)) in
          rw (f, y) refl
      | inr e ↦
          let ge = ltb-false _ _ e in
          let y : c.year / 100 ≡ 20 = omega (arith, high, ge) in
          let t : ltb (48 + c.year % 100 / 10) 53 ≡ true = lt-ltb _ _ (omega (arith, high, ge)) in
          rw (t, y) refl
    ]

-- what parsing answers of it
pub short_answer : (x y : List ℕ) (r : Option ℕ) → y ≡ with_century x → MatchOption r ((s : ℕ) → Text s y → ⊥) (λ m. Text m y) → MatchOption r (is_generalized y ≡ false) (λ m. (is_generalized y ≡ true) × (text_of m ≡ y))
    → MatchOption r (is_utc x ≡ false) (λ m. (is_utc x ≡ true) × (drop 2 (text_of m) ≡ x) × (m < first_late))
short_answer x y None e says test = unfold is_utc in (ap is_generalized (sym e) ∙ test)
short_answer x y (Some m) e says test =
    let there : is_utc x ≡ true = unfold is_utc in (ap is_generalized (sym e) ∙ test.0) in
    let short = short_there x there m (test.1 ∙ e) (subst (Text m) e says) in
    (there, short.0, short.1)

-- ---- the values

-- a text has fifteen octets
pub text_long : (s : ℕ) → length (text_of s) ≡ 15
unfolding text_of
text_long s = refl

-- and thirteen without the first two
pub short_long : (s : ℕ) → length (drop 2 (text_of s)) ≡ 13
unfolding text_of
short_long s = refl

-- the value of a GeneralizedTime
pub generalized_spelled : (s : ℕ) → spelling generalized_time (view_moment s) ≡ 24 ∷ 15 ∷ text_of s
unfolding text_of
generalized_spelled s = refl

-- the value of a Time up to 2049
pub early_view : (s : ℕ) → s < first_late → view_time s ≡ inl (drop 2 (text_of s))
early_view s lt = rw (lt-ltb s first_late lt) refl

-- and from 2050 on
pub late_view : (s : ℕ) → first_late ≤ s → view_time s ≡ inr (text_of s)
late_view s le = rw (le-ltb s first_late le) refl

pub early_spelled : (s : ℕ) → s < first_late → spelling time (view_time s) ≡ 23 ∷ 13 ∷ drop 2 (text_of s)
unfolding text_of
early_spelled s lt = ap (spelling time) (early_view s lt)

pub late_spelled : (s : ℕ) → first_late ≤ s → spelling time (view_time s) ≡ 24 ∷ 15 ∷ text_of s
unfolding text_of
late_spelled s le = ap (spelling time) (late_view s le)

-- reading the one whose tag is there
choice_first : (a b : Schema) (p : Spot) → starts_list (starts a) p.rest ≡ true → read (choice a b) p ≡ (read a p >>= λ x. Ok (inl x.0, x.1))
unfolding read
choice_first a b p t = rw t refl

choice_second : (a b : Schema) (p : Spot) → starts_list (starts a) p.rest ≡ false → read (choice a b) p ≡ (read b p >>= λ x. Ok (inr x.0, x.1))
unfolding read
choice_second a b p f = rw f refl

-- a Time that is a UTCTime
pub utc_read : (r : Result ℕ Der) (old new : Spot) → starts_list (starts (primitive 23 is_utc)) old.rest ≡ true → Reads (λ m. drop 2 (text_of m)) r old new (read (primitive 23 is_utc) old) → IfOk r (λ m. m < first_late) → Reads view_time r old new (read time old)
utc_read (Ok m) old new t h lt =
    choice_first (primitive 23 is_utc) (primitive 24 is_late) old t
    ∙ ap (λ (y : Result (List ℕ × Spot) Der). y >>= λ x. Ok (inl x.0, x.1)) h
    ∙ ap (λ (v : ValueOf time). Ok (v, new)) (sym (early_view m lt))
utc_read (Err d) old new t h lt =
    (choice_first (primitive 23 is_utc) (primitive 24 is_late) old t ∙ ap (λ (y : Result (List ℕ × Spot) Der). y >>= λ x. Ok (inl x.0, x.1)) h.0, h.1)

-- and one that isn't
pub late_read : (r : Result ℕ Der) (old new : Spot) → starts_list (starts (primitive 23 is_utc)) old.rest ≡ false → Reads text_of r old new (read (primitive 24 is_late) old) → IfOk r (λ m. first_late ≤ m) → Reads view_time r old new (read time old)
late_read (Ok m) old new t h le =
    choice_second (primitive 23 is_utc) (primitive 24 is_late) old t
    ∙ ap (λ (y : Result (List ℕ × Spot) Der). y >>= λ x. Ok (inr x.0, x.1)) h
    ∙ ap (λ (v : ValueOf time). Ok (v, new)) (sym (late_view m le))
late_read (Err d) old new t h le =
    (choice_second (primitive 23 is_utc) (primitive 24 is_late) old t ∙ ap (λ (y : Result (List ℕ × Spot) Der). y >>= λ x. Ok (inr x.0, x.1)) h.0, h.1)

-- the text of a second up to the last is there
pub text_at : (s : ℕ) → s ≤ last_second → Text s (text_of s)
unfolding text_of
text_at s le = let h = second_again s le in (civil_of s, is_timed (civil_of s) h.0, h.1, refl)

-- and passes the tests
pub generalized_at : (s : ℕ) → s ≤ last_second → is_generalized (text_of s) ≡ true
generalized_at s le = text_tested s (text_of s) (text_at s le)

pub late_at : (s : ℕ) → s ≤ last_second → first_late ≤ s → is_late (text_of s) ≡ true
late_at s le late = late_there s (text_of s) (text_at s le) late

-- the text of a second before 2050 follows from what stands behind its century
pub century_at : (s : ℕ) → s < first_late → with_century (drop 2 (text_of s)) ≡ text_of s
unfolding text_of
century_at s lt =
    let h = second_again s (omega (arith, lt)) in
    century_of_year (civil_of s) h.0.date.first_year (early_year (civil_of s) h.0 (omega (arith, h.1, lt)))

pub utc_at : (s : ℕ) → s < first_late → is_utc (drop 2 (text_of s)) ≡ true
unfolding is_utc
utc_at s lt = ap is_generalized (century_at s lt) ∙ generalized_at s (omega (arith, lt))

-- texts tell seconds
pub same_text : (s t : ℕ) → s ≤ last_second → t ≤ last_second → text_of s ≡ text_of t → s ≡ t
same_text s t p q e = one_second s t (text_of t) (subst (Text s) e (text_at s p)) (text_at t q)

-- ---- the texts of a UTCTime

pub short_at : (s : ℕ) → s < first_late → ShortText s (drop 2 (text_of s))
unfolding text_of
short_at s lt =
    let h = second_again s (omega (arith, lt)) in
    (civil_of s, is_timed (civil_of s) h.0, early_year (civil_of s) h.0 (omega (arith, h.1, lt)), h.1, refl)

pub one_short : (s : ℕ) (x : List ℕ) → ShortText s x → x ≡ drop 2 (text_of s)
one_short s x t = sym t.4 ∙ ap (drop 2) (one_text s (civil_text t.0) (t.0, t.1, t.3, refl))

pub short_within : (s : ℕ) (x : List ℕ) → ShortText s x → s < first_late
short_within s x t = omega (arith, early_second t.0 (timed t.0 t.1) t.2, t.3)

pub one_short_second : (s t : ℕ) (x : List ℕ) → ShortText s x → ShortText t x → s ≡ t
one_short_second s t x a b =
    let p = short_within s x a in
    let q = short_within t x b in
    let same : text_of s ≡ text_of t = sym (century_at s p) ∙ ap with_century (sym (one_short s x a) ∙ one_short t x b) ∙ century_at t q in
    same_text s t (omega (arith, p)) (omega (arith, q)) same

pub short_tested : (s : ℕ) (x : List ℕ) → ShortText s x → is_utc x ≡ true
short_tested s x t = ap is_utc (one_short s x t) ∙ utc_at s (short_within s x t)

pub short_text_there : (x : List ℕ) → is_utc x ≡ true → (s : ℕ) × ShortText s x
short_text_there x e =
    let m : ℕ = second_of (civil_in (with_century x)) in
    let whole : is_generalized (with_century x) ≡ true = unfold is_utc in e in
    let t = text_there (with_century x) whole in
    let short = short_there x e m (sym (one_text m (with_century x) t)) t in
    (m, subst (ShortText m) short.0 (short_at m short.1))

-- ---- spellings

pub moment_fits : (s levels : ℕ) → s ≤ last_second → 1 ≤ levels → Fits generalized_time levels (view_moment s)
moment_fits s levels le deep = (omega (arith, deep), omega (arith, text_long s), generalized_at s le)

pub time_fits : (s levels : ℕ) → s ≤ last_second → 1 ≤ levels → Fits time levels (view_time s)
time_fits s levels le deep =
    elim (cases_Bool (ltb s first_late)) [
      | inl t ↦
          let lt = ltb-true s first_late t in
          let here : Fits time levels (inl (drop 2 (text_of s))) = (omega (arith, deep), omega (arith, short_long s), utc_at s lt) in
          subst (Fits time levels) (sym (early_view s lt)) here
      | inr f ↦
          let ge = ltb-false s first_late f in
          let here : Fits time levels (inr (text_of s)) = (omega (arith, deep), omega (arith, text_long s), late_at s le ge) in
          subst (Fits time levels) (sym (late_view s ge)) here
    ]

-- the text in a Time tells the second
pub same_time : (s t : ℕ) → s ≤ last_second → t ≤ last_second → view_time s ≡ view_time t → s ≡ t
same_time s t p q e =
    elim (cases_Bool (ltb s first_late)) [
      | inl a ↦
          let lt = ltb-true s first_late a in
          elim (cases_Bool (ltb t first_late)) [
            | inl b ↦
                let gt = ltb-true t first_late b in
                let both : drop 2 (text_of s) ≡ drop 2 (text_of t) = first_same (sym (early_view s lt) ∙ e ∙ early_view t gt) in
                same_text s t p q (sym (century_at s lt) ∙ ap with_century both ∙ century_at t gt)
            | inr b ↦ absurd (first_second (sym (early_view s lt) ∙ e ∙ late_view t (ltb-false t first_late b)))
          ]
      | inr a ↦
          let ge = ltb-false s first_late a in
          elim (cases_Bool (ltb t first_late)) [
            | inl b ↦ absurd (first_second (sym (early_view t (ltb-true t first_late b)) ∙ sym e ∙ late_view s ge))
            | inr b ↦ same_text s t p q (second_same (sym (late_view s ge) ∙ e ∙ late_view t (ltb-false t first_late b)))
          ]
    ]
  where
    first_same : {x y : List ℕ} → ◌≡◌ {A = List ℕ ⊎ List ℕ} (inl x) (inl y) → x ≡ y
    first_same h = cc

    second_same : {x y : List ℕ} → ◌≡◌ {A = List ℕ ⊎ List ℕ} (inr x) (inr y) → x ≡ y
    second_same h = cc

    first_second : {x y : List ℕ} → ◌≡◌ {A = List ℕ ⊎ List ℕ} (inl x) (inr y) → ⊥
    first_second h = cc
