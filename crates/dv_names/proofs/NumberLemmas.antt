-- The numbers that an identifier's octets spell.
use Rattle.std.proofs.Common.{◌≡◌, ℕ, ◌+◌, ◌-◌, ◌*◌, ◌%◌, ◌<◌, ◌≤◌, ◌⊎◌, inl, inr, min, Bool, true, false, List, [], ◌∷◌, ◌++◌, length, take, drop, get_or, refl, sym, ap, ◌∙◌, arith, eqb, ltb, append_assoc}
use Rattle.std.proofs.lemmas.Bool.{and_parts, lt-ltb, le-ltb, ltb-true, ltb-false, eqb-true, eqb-false, cases_Bool}
use Rattle.std.proofs.lemmas.List.{append-nil, length-drop, length-take, take_more}
use Rattle.std.proofs.lemmas.List.Folds.{list_all-append}
use Rattle.std.proofs.lemmas.Fmt.{decimal-digits_of}
use Rattle.std.proofs.lemmas.Grind.{flat_map-append}
use Rattle.std.specs.Fmt.{decimal, digits}
use Rattle.std.specs.List.{flat_map}
use Rattle.dv_schema.specs.Rules.{are_arcs, is_oid}
use Rattle.dv_names.specs.Arcs.{numbers_after, arcs_of_numbers, are_narrow, arc_text, dotted}
use Rattle.dv_names.proofs.ArcTexts.{opened}

-- one more than the greatest number that is told
abbrev pub cap : ℕ
cap = 18446744073709551696

-- ---- one number

-- an octet more of a number, kept below the cap
pub capped : (n d : ℕ) → min (min n cap * 128 + d) cap ≡ min (n * 128 + d) cap
capped n d = omega arith

-- the last octet of a number
pub ended : (octets : List ℕ) (i n : ℕ) → i < length octets → get_or octets i 0 < 128 → numbers_after n (drop i octets) ≡ (n * 128 + get_or octets i 0 % 128) ∷ numbers_after 0 (drop (i + 1) octets)
unfolding numbers_after
ended octets i n lt low =
    let b : ℕ = get_or octets i 0 in
    let t : ltb b 128 ≡ true = lt-ltb b 128 low in
    let same : b % 128 ≡ b = omega (arith, low) in
    rw (opened octets i lt, t, same) refl

-- another one
pub continued : (octets : List ℕ) (i n : ℕ) → i < length octets → 128 ≤ get_or octets i 0 → get_or octets i 0 < 256 → numbers_after n (drop i octets) ≡ numbers_after (n * 128 + get_or octets i 0 % 128) (drop (i + 1) octets)
unfolding numbers_after
continued octets i n lt high byte =
    let b : ℕ = get_or octets i 0 in
    let f : ltb b 128 ≡ false = le-ltb b 128 high in
    let same : b % 128 ≡ b - 128 = omega (arith, high, byte) in
    rw (opened octets i lt, f, same) refl

-- the rule behind an octet
pub rule_on : (fresh : Bool) (octets : List ℕ) (i : ℕ) → i < length octets → are_arcs fresh (drop i octets) ≡ true → are_arcs (ltb (get_or octets i 0) 128) (drop (i + 1) octets) ≡ true
rule_on fresh octets i lt h =
    let here : are_arcs fresh (get_or octets i 0 ∷ drop (i + 1) octets) ≡ true = ap (are_arcs fresh) (sym (opened octets i lt)) ∙ h in
    (and_parts _ _ here).1

-- octets that follow it are none, or an identifier
rule_oid : (xs : List ℕ) → are_arcs true xs ≡ true → (xs ≡ []) ⊎ (is_oid xs ≡ true)
rule_oid [] h = inl refl
rule_oid (x ∷ xs) h = inr h

pub rest_oid : (octets : List ℕ) (i : ℕ) → i ≤ length octets → are_arcs true (drop i octets) ≡ true → (i ≡ length octets) ⊎ (is_oid (drop i octets) ≡ true)
rest_oid octets i le h =
    elim (rule_oid (drop i octets) h) [
      | inl none ↦ inl (omega (arith, le, ap length none, length-drop i octets))
      | inr oid ↦ inr oid
    ]

-- an identifier begins a number
pub oid_rule : (xs : List ℕ) → is_oid xs ≡ true → are_arcs true xs ≡ true
oid_rule [] h = absurd cc
oid_rule (x ∷ xs) h = h

pub oid_some : (xs : List ℕ) → is_oid xs ≡ true → 0 < length xs
oid_some [] h = absurd cc
oid_some (x ∷ xs) h = omega arith

-- ---- the first number

-- a first number below the cap
pub first_small : (n : ℕ) (ns : List ℕ) → n < cap → are_narrow (arcs_of_numbers (n ∷ ns)) ≡ are_narrow ns
first_small n ns lt =
    elim (cases_Bool (ltb n 40)) [
      | inl t ↦ let low = ltb-true n 40 t in let a : ltb n 18446744073709551616 ≡ true = lt-ltb _ _ (omega (arith, low)) in rw (t, a) refl
      | inr f ↦ elim (cases_Bool (ltb n 80)) [
        | inl t ↦ let low = ltb-true n 80 t in let a : ltb (n - 40) 18446744073709551616 ≡ true = lt-ltb _ _ (omega (arith, low)) in rw (f, t, a) refl
        | inr g ↦ let high = ltb-false n 80 g in let a : ltb (n - 80) 18446744073709551616 ≡ true = lt-ltb _ _ (omega (arith, lt, high)) in rw (f, g, a) refl
      ]
    ]

-- one from the cap on
pub first_large : (n : ℕ) (ns : List ℕ) → cap ≤ n → are_narrow (arcs_of_numbers (n ∷ ns)) ≡ false
first_large n ns le =
    let f : ltb n 40 ≡ false = le-ltb n 40 (omega (arith, le)) in
    let g : ltb n 80 ≡ false = le-ltb n 80 (omega (arith, le)) in
    let a : ltb (n - 80) 18446744073709551616 ≡ false = le-ltb (n - 80) 18446744073709551616 (omega (arith, le)) in
    rw (f, g, a) refl

-- its arcs stand before the others
pub first_apart : (n : ℕ) (ns : List ℕ) → arcs_of_numbers (n ∷ ns) ≡ arcs_of_numbers (n ∷ []) ++ ns
first_apart n ns =
    elim (cases_Bool (ltb n 40)) [
      | inl t ↦ rw t refl
      | inr f ↦ elim (cases_Bool (ltb n 80)) [ inl t ↦ rw (f, t) refl | inr g ↦ rw (f, g) refl ]
    ]

-- ---- the others

pub next_small : (n : ℕ) (ns : List ℕ) → n < 18446744073709551616 → are_narrow (n ∷ ns) ≡ are_narrow ns
next_small n ns lt = let t : ltb n 18446744073709551616 ≡ true = lt-ltb _ _ lt in rw t refl

pub next_large : (n : ℕ) (ns : List ℕ) → 18446744073709551616 ≤ n → are_narrow (n ∷ ns) ≡ false
next_large n ns le = let f : ltb n 18446744073709551616 ≡ false = le-ltb _ _ le in rw f refl

-- an arc among narrow ones
pub narrow_in : (front : List ℕ) (n : ℕ) (ns : List ℕ) → are_narrow (front ++ n ∷ ns) ≡ true → n < 18446744073709551616
narrow_in front n ns h =
    let all = and_parts _ _ (sym (list_all-append (λ a. ltb a 18446744073709551616) front (n ∷ ns)) ∙ h) in
    ltb-true n 18446744073709551616 (and_parts _ _ all.1).0

-- ---- arcs in decimal

-- as std prints a number
pub arc_decimal : (n : ℕ) → n < 18446744073709551616 → decimal n ≡ arc_text n
arc_decimal n lt =
    elim (cases_Bool (eqb n 0)) [
      | inl t ↦ let z : n ≡ 0 = eqb-true n 0 t in rw (t, z) (unfold digits in refl)
      | inr f ↦ let some = eqb-false n 0 f in rw f (decimal-digits_of n (omega (arith, some)) lt)
    ]

-- one arc more
dotted_behind : (a : ℕ) (more : List ℕ) (n : ℕ) → dotted (a ∷ more ++ n ∷ []) ≡ dotted (a ∷ more) ++ 46 ∷ arc_text n
dotted_behind a more n =
    ap (λ (l : List ℕ). arc_text a ++ l) (flat_map-append (λ b. 46 ∷ arc_text b) more (n ∷ []) ∙ ap (λ (l : List ℕ). flat_map (λ b. 46 ∷ arc_text b) more ++ l) (append-nil (46 ∷ arc_text n)))
    ∙ sym (append_assoc (arc_text a) (flat_map (λ b. 46 ∷ arc_text b) more) (46 ∷ arc_text n))

behind : (xs : List ℕ) (n : ℕ) → 0 < length xs → dotted (xs ++ n ∷ []) ≡ dotted xs ++ 46 ∷ arc_text n
behind [] n pos = absurd (omega (arith, pos))
behind (a ∷ more) n pos = dotted_behind a more n

pub dotted_next : (arcs : List ℕ) (i : ℕ) → i < length arcs → 0 < i → dotted (take (i + 1) arcs) ≡ dotted (take i arcs) ++ 46 ∷ arc_text (get_or arcs i 0)
dotted_next arcs i lt pos = ap dotted (take_more arcs i 0 lt) ∙ behind (take i arcs) (get_or arcs i 0) (omega (arith, length-take i arcs, lt, pos))

pub dotted_first : (arcs : List ℕ) → 0 < length arcs → dotted (take 1 arcs) ≡ arc_text (get_or arcs 0 0)
dotted_first [] lt = absurd (omega (arith, lt))
dotted_first (a ∷ more) lt = append-nil (arc_text a)

-- nothing more
pub none_left : (rest : List ℕ) → length rest ≡ 0 → numbers_after 0 rest ≡ []
unfolding numbers_after
none_left [] e = refl
none_left (x ∷ xs) e = absurd (omega (arith, e))
