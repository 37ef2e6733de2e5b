-- Additions with their places.
use Rattle.std.proofs.Common.{◌≡◌, ◌≢◌, ◌⊎◌, ⊎_elim, inl, inr, ℕ, zero, suc, ◌+◌, ◌<◌, ◌≤◌, ◌==◌, Bool, true, false, List, [], ◌∷◌, ◌++◌, length, Some, refl, ap, sym, ◌∙◌, subst, arith, append_assoc, length-append, eq-eqb, ne_eqb}
use Rattle.std.specs.Prelude.{slice_get, nat_lt, nat_le, if◌then◌else◌}
use Rattle.std.proofs.lemmas.Option.{slice_get_within}
use Rattle.std.proofs.lemmas.Bool.Decides.{nat_tests}
use mathlib.Core.List.{IsPrefix}
use Rattle.dv_passes.specs.declared.view.Event.{Event}
use Rattle.dv_passes.specs.History.{StandIn, times, once, events_of}
use Rattle.dv_passes.specs.Plays.{with_place, merged}
use Rattle.dv_passes.proofs.Prefixes.{prefix_get}

pub get_at_end : {A : Type 0} (xs ys : List A) (y : A) → slice_get (xs ++ y ∷ ys) (length xs) ≡ Some y
get_at_end [] ys y = refl
get_at_end (x ∷ xs) ys y = get_at_end xs ys y

pub stand_prefix : (log more : List Event) (n : ℕ) (ms : List (ℕ × Event)) → IsPrefix log more → StandIn log n ms → StandIn more n ms
stand_prefix log more n [] pre s = tt
stand_prefix log more n (m ∷ ms) pre s = (s.0, prefix_get log more m.0 m.1 pre s.1, stand_prefix log more (suc m.0) ms pre s.2)

-- one more at the end
pub stand_snoc : (log : List Event) (n : ℕ) (ms : List (ℕ × Event)) (e : Event) → n ≤ length log → StandIn log n ms → StandIn (log ++ e ∷ []) n (ms ++ (length log, e) ∷ [])
stand_snoc log n [] e le s = (le, get_at_end log [] e, tt)
stand_snoc log n (m ∷ ms) e le s =
    let here : m.0 < length log = slice_get_within log m.0 m.1 s.1 in
    (s.0, prefix_get log (log ++ e ∷ []) m.0 m.1 (e ∷ [], refl) s.1, stand_snoc log (suc m.0) ms e (omega arith) s.2)

pub times-append : (p : ℕ) (xs ys : List (ℕ × Event)) → times p (xs ++ ys) ≡ times p xs + times p ys
times-append p [] ys = omega arith
times-append p (x ∷ xs) ys = let rest = times-append p xs ys in omega arith

-- places below the first do not stand there
pub times_below : (log : List Event) (n p : ℕ) (ms : List (ℕ × Event)) → StandIn log n ms → p < n → times p ms ≡ 0
times_below log n p [] s lt = refl
times_below log n p (m ∷ ms) s lt =
    let rest : times p ms ≡ 0 = times_below log (suc m.0) p ms s.2 (omega (arith, s.0)) in
    let le : n ≤ m.0 = s.0 in
    rw (ne_eqb m.0 p (λ h. omega arith)) (omega arith)

pub times-with_place : (p : ℕ) (m : ℕ × Event) (xs : List (ℕ × Event)) → times p (with_place m xs) ≡ times p (m ∷ xs)
times-with_place p m [] = refl
times-with_place p m (x ∷ xs) = by_test (times-with_place p m xs) (nat_lt m.0 x.0) refl
  where
    by_test : times p (with_place m xs) ≡ times p (m ∷ xs) → (b : Bool) → nat_lt m.0 x.0 ≡ b → times p (with_place m (x ∷ xs)) ≡ times p (m ∷ x ∷ xs)
    by_test rest true is = rw is refl
    by_test rest false is = rw is (omega arith)

pub times-merged : (p : ℕ) (xs ys : List (ℕ × Event)) → times p (merged xs ys) ≡ times p xs + times p ys
times-merged p xs [] = omega arith
times-merged p xs (y ∷ ys) = let rest = times-merged p xs ys in let one = times-with_place p y (merged xs ys) in omega arith

pub stand_with_place : (log : List Event) (n : ℕ) (m : ℕ × Event) (xs : List (ℕ × Event)) → n ≤ m.0 → slice_get log m.0 ≡ Some m.1 → times m.0 xs ≡ 0 → StandIn log n xs → StandIn log n (with_place m xs)
stand_with_place log n m [] le at new s = (le, at, tt)
stand_with_place log n m (x ∷ xs) le at new s = by_test (λ after rest. stand_with_place log (suc x.0) m xs after at rest s.2) (nat_lt m.0 x.0) refl
  where
    by_test : (suc x.0 ≤ m.0 → times m.0 xs ≡ 0 → StandIn log (suc x.0) (with_place m xs)) → (b : Bool) → nat_lt m.0 x.0 ≡ b → StandIn log n (with_place m (x ∷ xs))
    by_test later true is = rw is (le, at, (grind (arith, nat_tests), s.1, s.2))
    by_test later false is =
        let apart : x.0 ≢ m.0 = λ h. let one : (x.0 == m.0) ≡ true = eq-eqb x.0 m.0 h in absurd (omega (arith, rw one at new)) in
        let none = rw (ne_eqb x.0 m.0 apart) at new in
        let rest : times m.0 xs ≡ 0 = omega arith in
        let after : suc x.0 ≤ m.0 = grind (arith, nat_tests) in
        rw is (s.0, s.1, later after rest)

-- the additions of two, of which no place is in both
pub stand_merged : (log : List Event) (n : ℕ) (xs ys : List (ℕ × Event)) → StandIn log n xs → (lower : ℕ) → n ≤ lower → StandIn log lower ys → ((p : ℕ) → times p xs + times p ys ≤ 1) → StandIn log n (merged xs ys)
stand_merged log n xs [] s lower le t once_at_most = s
stand_merged log n xs (y ∷ ys) s lower le t once_at_most =
    let same : (y.0 == y.0) ≡ true = eq-eqb y.0 y.0 refl in
    let room : times y.0 xs + (1 + times y.0 ys) ≤ 1 = rw same at (once_at_most y.0) in
    let first : lower ≤ y.0 = t.0 in
    let later : times y.0 (merged xs ys) ≡ 0 = omega (arith, times-merged y.0 xs ys) in
    stand_with_place log n y (merged xs ys) (omega arith) t.1 later (stand_merged log n xs ys s (suc y.0) (omega arith) t.2 (λ p. omega (arith, once_at_most p)))

-- where each place from n on stands there once, the events are the history from there
pub whole : (hs pre log : List Event) (n : ℕ) (ms : List (ℕ × Event)) → log ≡ pre ++ hs → n ≡ length pre → StandIn log n ms → ((p : ℕ) → times p ms ≡ once n (length log) p) → hs ≡ events_of ms
whole [] pre log n [] is len s all = refl
whole [] pre log n (m ∷ ms) is len s all =
    let le : n ≤ m.0 = s.0 in
    let size : length log ≡ length pre + 0 = ap length is ∙ length-append pre [] in
    absurd (omega (arith, slice_get_within log m.0 m.1 s.1))
whole (h ∷ hs) pre log n [] is len s all =
    let size : length log ≡ length pre + suc (length hs) = ap length is ∙ length-append pre (h ∷ hs) in
    let none : 0 ≡ once n (length log) n = all n in
    let here : once n (length log) n ≡ 1 = grind (arith, nat_tests) in
    absurd (omega arith)
whole (h ∷ hs) pre log n (m ∷ ms) is len s all =
    let size : length log ≡ length pre + suc (length hs) = ap length is ∙ length-append pre (h ∷ hs) in
    let le : n ≤ m.0 = s.0 in
    let here : once n (length log) n ≡ 1 = grind (arith, nat_tests) in
    let at : slice_get log n ≡ Some h = subst (λ (l : List Event). slice_get l n ≡ Some h) (sym is) (subst (λ (k : ℕ). slice_get (pre ++ h ∷ hs) k ≡ Some h) (sym len) (get_at_end pre hs h)) in
    by_test
    (λ place rest others. whole hs (pre ++ h ∷ []) log (suc n) ms (is ∙ sym (append_assoc pre (h ∷ []) hs)) (omega (arith, length-append pre (h ∷ []))) rest others)
    size here at (m.0 == n) refl
  where
    others : m.0 ≡ n → StandIn log (suc n) ms → (p : ℕ) → (b : Bool) → (n == p) ≡ b → times p ms ≡ once (suc n) (length log) p
    others place rest p true eq =
        let below : times p ms ≡ 0 = times_below log (suc n) p ms rest (grind (arith, nat_tests)) in
        let out : once (suc n) (length log) p ≡ 0 = grind (arith, nat_tests) in
        below ∙ sym out
    others place rest p false eq =
        let test : (m.0 == p) ≡ false = subst (λ (k : ℕ). (k == p) ≡ false) (sym place) eq in
        let now = rw test at (all p) in
        let out : once (suc n) (length log) p ≡ once n (length log) p = grind (arith, nat_tests) in
        omega arith

    by_test : (m.0 ≡ n → StandIn log (suc n) ms → ((p : ℕ) → times p ms ≡ once (suc n) (length log) p) → hs ≡ events_of ms)
        → length log ≡ length pre + suc (length hs) → once n (length log) n ≡ 1 → slice_get log n ≡ Some h → (b : Bool) → (m.0 == n) ≡ b → h ∷ hs ≡ m.1 ∷ events_of ms
    by_test later size here at true same =
        let place : m.0 ≡ n = grind (arith, nat_tests) in
        let found : slice_get log n ≡ Some m.1 = subst (λ (k : ℕ). slice_get log k ≡ Some m.1) place s.1 in
        let head : h ≡ m.1 = cc in
        let rest : StandIn log (suc n) ms = subst (λ (k : ℕ). StandIn log (suc k) ms) place s.2 in
        let tail = later place rest (λ p. others place rest p (n == p) refl) in
        cc (head, tail)
    by_test later size here at false other =
        let le : n ≤ m.0 = s.0 in
        let past : n < m.0 = grind (arith, nat_tests) in
        let below : times n ms ≡ 0 = times_below log (suc m.0) n ms s.2 (omega arith) in
        let none = rw other at (all n) in
        absurd (omega arith)
