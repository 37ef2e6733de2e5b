-- Identifiers, arcs and texts are one for one.
use Rattle.std.proofs.Common.{◌≡◌, ◌≢◌, ℕ, zero, suc, ◌+◌, ◌-◌, ◌*◌, ◌/◌, ◌%◌, ◌<◌, ◌≤◌, ◌&&◌, ◌||◌, ◌⊎◌, inl, inr, not, Bool, true, false, List, [], ◌∷◌, ◌++◌, length, map, get_or, refl, sym, ap, ◌∙◌, arith, eqb, leb, ltb, append_assoc}
use Rattle.std.proofs.lemmas.Bool.{and_parts, and_from, lt-ltb, le-ltb, ltb-true, ltb-false, le-leb, leb-true, eqb-true, ne_eqb, cases_Bool}
use Rattle.std.proofs.lemmas.List.{map-append, length-append}
use Rattle.std.proofs.lemmas.Int.Digits.{digits_of_step, first_digits_of, number_digits_of, all_below_base_digits_of}
use Rattle.std.specs.List.{flat_map}
use Rattle.std.specs.Int.Digits.{digits_of, number_from_digits_after, AllBelowBase}
use Rattle.dv_schema.specs.Octets.{IsBytes}
use Rattle.dv_schema.specs.Rules.{are_arcs, is_oid}
use Rattle.dv_names.specs.Arcs.{number_octets, numbers_of_arcs, oid_octets, numbers_after, arcs_of_numbers, arcs_of, dotted, are_proper, are_good, largest_arc, second_limit, Names}
use Rattle.dv_names.proofs.ArcTexts.{said, arcs_said, are_small}

-- ---- octets and the numbers that they spell

-- the octets of the numbers that are read are those that were read
spelled_after : (bs : List ℕ) (n : ℕ) → IsBytes bs → are_arcs (eqb n 0) bs ≡ true → flat_map number_octets (numbers_after n bs) ≡ map (λ d. 128 + d) (digits_of 128 n) ++ bs
unfolding numbers_after
spelled_after [] n bytes h = let z : n ≡ 0 = eqb-true n 0 h in rw z refl
spelled_after (b ∷ bs) n bytes h =
    let parts = and_parts (not (eqb n 0 && eqb b 128)) (are_arcs (ltb b 128) bs) h in
    let tail : IsBytes bs = λ i. bytes (suc i) in
    let high : List ℕ = map (λ d. 128 + d) (digits_of 128 n) in
    elim (cases_Bool (ltb b 128)) [
      | inl t ↦
          let low = ltb-true b 128 t in
          let m : ℕ = n * 128 + b in
          let front : m / 128 ≡ n = omega (arith, low) in
          let last : m % 128 ≡ b = omega (arith, low) in
          let rest : flat_map number_octets (numbers_after 0 bs) ≡ bs = spelled_after bs 0 tail (rw t at parts.1) in
          let here : number_octets m ≡ high ++ b ∷ [] = ap (λ (k : ℕ). map (λ d. 128 + d) (digits_of 128 k) ++ m % 128 ∷ []) front ∙ ap (λ (k : ℕ). high ++ k ∷ []) last in
          rw t (ap (λ (l : List ℕ). l ++ flat_map number_octets (numbers_after 0 bs)) here ∙ append_assoc high (b ∷ []) (flat_map number_octets (numbers_after 0 bs)) ∙ ap (λ (l : List ℕ). high ++ b ∷ l) rest)
      | inr f ↦
          let ge = ltb-false b 128 f in
          let byte : b < 256 = bytes 0 in
          let d : ℕ = b - 128 in
          let m : ℕ = n * 128 + d in
          let some : m ≢ 0 = λ (z : m ≡ 0). fresh_not n b (omega (arith, z)) (omega (arith, z, ge)) parts.0 in
          let not_zero : eqb m 0 ≡ false = ne_eqb m 0 some in
          let rule : are_arcs (eqb m 0) bs ≡ true = ap (λ g. are_arcs g bs) (not_zero ∙ sym f) ∙ parts.1 in
          let front : m / 128 ≡ n = omega (arith, byte, ge) in
          let last : m % 128 ≡ d = omega (arith, byte, ge) in
          let step : digits_of 128 m ≡ digits_of 128 (m / 128) ++ m % 128 ∷ [] = digits_of_step 128 m (omega arith) (omega (arith, some)) in
          let whole : digits_of 128 m ≡ digits_of 128 n ++ d ∷ [] = step ∙ ap (λ (k : ℕ). digits_of 128 k ++ m % 128 ∷ []) front ∙ ap (λ (k : ℕ). digits_of 128 n ++ k ∷ []) last in
          let octet : 128 + d ≡ b = omega (arith, ge) in
          let shown : map (λ d. 128 + d) (digits_of 128 m) ≡ high ++ b ∷ [] = ap (map (λ d. 128 + d)) whole ∙ map-append (λ d. 128 + d) (digits_of 128 n) (d ∷ []) ∙ ap (λ (k : ℕ). high ++ k ∷ []) octet in
          rw f (spelled_after bs m tail rule ∙ ap (λ (l : List ℕ). l ++ bs) shown ∙ append_assoc high (b ∷ []) bs)
    ]
  where
    fresh_not : (n b : ℕ) → n ≡ 0 → b ≡ 128 → not (eqb n 0 && eqb b 128) ≡ true → ⊥
    fresh_not n b p q h = let zero_is : eqb n 0 ≡ true = rw p refl in let pad : eqb b 128 ≡ true = rw q refl in let no_more = rw (zero_is, pad) at h in cc

-- the digits of a number are read as its digits
digits_read : (ds : List ℕ) (n : ℕ) (rest : List ℕ) → AllBelowBase 128 ds → numbers_after n (map (λ d. 128 + d) ds ++ rest) ≡ numbers_after (number_from_digits_after 128 n ds) rest
unfolding numbers_after
digits_read [] n rest h = refl
digits_read (d ∷ ds) n rest h =
    let f : ltb (128 + d) 128 ≡ false = le-ltb (128 + d) 128 (omega arith) in
    let digit : 128 + d - 128 ≡ d = omega arith in
    rw (f, digit) (digits_read ds (n * 128 + d) rest h.1)

-- the last digit ends it
last_read : (k b : ℕ) (rest : List ℕ) → b < 128 → numbers_after k (b ∷ rest) ≡ (k * 128 + b) ∷ numbers_after 0 rest
unfolding numbers_after
last_read k b rest lt = let t : ltb b 128 ≡ true = lt-ltb b 128 lt in rw t refl

-- a number's octets are read as the number
number_read : (n : ℕ) (rest : List ℕ) → numbers_after 0 (number_octets n ++ rest) ≡ n ∷ numbers_after 0 rest
number_read n rest =
    let high : List ℕ = map (λ d. 128 + d) (digits_of 128 (n / 128)) in
    let whole : n / 128 * 128 + n % 128 ≡ n = omega arith in
    ap (numbers_after 0) (append_assoc high (n % 128 ∷ []) rest)
    ∙ digits_read (digits_of 128 (n / 128)) 0 (n % 128 ∷ rest) (all_below_base_digits_of 128 (n / 128) (omega arith))
    ∙ ap (λ (k : ℕ). numbers_after k (n % 128 ∷ rest)) (number_digits_of 128 (n / 128) (omega arith))
    ∙ last_read (n / 128) (n % 128) rest (omega arith) ∙ ap (λ (k : ℕ). k ∷ numbers_after 0 rest) whole

-- and so are those of several
pub numbers_read : (ns : List ℕ) → numbers_after 0 (flat_map number_octets ns) ≡ ns
numbers_read [] = unfold numbers_after in refl
numbers_read (n ∷ ns) = number_read n (flat_map number_octets ns) ∙ ap (λ (l : List ℕ). n ∷ l) (numbers_read ns)

-- what is read of octets is spelled by them
pub octets_again : (x : List ℕ) → IsBytes x → is_oid x ≡ true → oid_octets (arcs_of x) ≡ x
octets_again [] bytes h = absurd cc
octets_again (b ∷ bs) bytes h =
    ap (flat_map number_octets) (numbers_again (numbers_after 0 (b ∷ bs))) ∙ spelled_after (b ∷ bs) 0 bytes h
  where
    numbers_again : (ns : List ℕ) → numbers_of_arcs (arcs_of_numbers ns) ≡ ns
    numbers_again [] = refl
    numbers_again (n ∷ ns) =
        elim (cases_Bool (ltb n 40)) [
          | inl t ↦ let same : 0 * 40 + n ≡ n = omega arith in rw t (ap (λ (k : ℕ). k ∷ ns) same)
          | inr f ↦ elim (cases_Bool (ltb n 80)) [
            | inl t ↦ let ge = ltb-false n 40 f in let same : 1 * 40 + (n - 40) ≡ n = omega (arith, ge) in rw (f, t) (ap (λ (k : ℕ). k ∷ ns) same)
            | inr g ↦ let ge = ltb-false n 80 g in let same : 2 * 40 + (n - 80) ≡ n = omega (arith, ge) in rw (f, g) (ap (λ (k : ℕ). k ∷ ns) same)
          ]
        ]

-- ---- the rule of identifiers

-- digits behind the first one
high_rule : (ds : List ℕ) (last : ℕ) (rest : List ℕ) → last < 128 → are_arcs false (map (λ d. 128 + d) ds ++ last ∷ rest) ≡ are_arcs true rest
high_rule [] last rest lt = let t : ltb last 128 ≡ true = lt-ltb last 128 lt in rw t refl
high_rule (d ∷ ds) last rest lt = let f : ltb (128 + d) 128 ≡ false = le-ltb (128 + d) 128 (omega arith) in rw f (high_rule ds last rest lt)

fresh_rule : (ds : List ℕ) (last : ℕ) (rest : List ℕ) → last < 128 → (length ds ≡ 0) ⊎ (0 < get_or ds 0 0) → are_arcs true (map (λ d. 128 + d) ds ++ last ∷ rest) ≡ are_arcs true rest
fresh_rule [] last rest lt h =
    let t : ltb last 128 ≡ true = lt-ltb last 128 lt in
    let other : eqb last 128 ≡ false = ne_eqb last 128 (λ (z : last ≡ 128). omega (arith, z, lt)) in
    rw (t, other) refl
fresh_rule (d ∷ ds) last rest lt (inl none) = absurd (omega (arith, none))
fresh_rule (d ∷ ds) last rest lt (inr pos) =
    let f : ltb (128 + d) 128 ≡ false = le-ltb (128 + d) 128 (omega arith) in
    let other : eqb (128 + d) 128 ≡ false = ne_eqb (128 + d) 128 (λ (z : 128 + d ≡ 128). omega (arith, z, pos)) in
    rw (f, other) (high_rule ds last rest lt)

number_rule : (n : ℕ) (rest : List ℕ) → are_arcs true (number_octets n ++ rest) ≡ are_arcs true rest
number_rule n rest =
    let high : List ℕ = map (λ d. 128 + d) (digits_of 128 (n / 128)) in
    let first : (length (digits_of 128 (n / 128)) ≡ 0) ⊎ (0 < get_or (digits_of 128 (n / 128)) 0 0) = elim (cases_Bool (ltb 0 (n / 128))) [
      | inl t ↦ inr (first_digits_of 128 (n / 128) (omega arith) (ltb-true _ _ t))
      | inr f ↦ let z : n / 128 ≡ 0 = omega (arith, ltb-false _ _ f) in inl (ap (λ (k : ℕ). length (digits_of 128 k)) z)
    ] in
    ap (are_arcs true) (append_assoc high (n % 128 ∷ []) rest) ∙ fresh_rule (digits_of 128 (n / 128)) (n % 128) rest (omega arith) first

numbers_rule : (ns : List ℕ) → are_arcs true (flat_map number_octets ns) ≡ true
numbers_rule [] = refl
numbers_rule (n ∷ ns) = number_rule n (flat_map number_octets ns) ∙ numbers_rule ns

oid_from : (xs : List ℕ) → 0 < length xs → are_arcs true xs ≡ true → is_oid xs ≡ true
oid_from [] pos h = absurd (omega (arith, pos))
oid_from (x ∷ xs) pos h = h

-- the octets of arcs are an identifier's
pub oid_is : (arcs : List ℕ) → are_proper arcs ≡ true → is_oid (oid_octets arcs) ≡ true
oid_is [] h = absurd cc
oid_is (a ∷ []) h = absurd cc
oid_is (a ∷ b ∷ cs) h =
    let n : ℕ = a * 40 + b in
    let rest : List ℕ = flat_map number_octets cs in
    let high : List ℕ = map (λ d. 128 + d) (digits_of 128 (n / 128)) in
    let some : 0 < length (number_octets n ++ rest) = omega (arith, length-append (number_octets n) rest, length-append high (n % 128 ∷ [])) in
    oid_from (number_octets n ++ rest) some (numbers_rule (n ∷ cs))

-- ---- arcs

split_again : (a b : ℕ) (cs : List ℕ) → a ≤ 2 → (2 ≤ a) ⊎ (b < 40) → arcs_of_numbers ((a * 40 + b) ∷ cs) ≡ a ∷ b ∷ cs
split_again zero b cs le (inl two) = absurd (omega (arith, two))
split_again zero b cs le (inr lt) =
    let same : 0 * 40 + b ≡ b = omega arith in
    let t : ltb b 40 ≡ true = lt-ltb b 40 lt in
    rw (same, t) refl
split_again (suc zero) b cs le (inl two) = absurd (omega (arith, two))
split_again (suc zero) b cs le (inr lt) =
    let f : ltb (1 * 40 + b) 40 ≡ false = le-ltb _ _ (omega arith) in
    let t : ltb (1 * 40 + b) 80 ≡ true = lt-ltb _ _ (omega (arith, lt)) in
    let same : 1 * 40 + b - 40 ≡ b = omega arith in
    rw (f, t, same) refl
split_again (suc (suc zero)) b cs le h =
    let f : ltb (2 * 40 + b) 40 ≡ false = le-ltb _ _ (omega arith) in
    let g : ltb (2 * 40 + b) 80 ≡ false = le-ltb _ _ (omega arith) in
    let same : 2 * 40 + b - 80 ≡ b = omega arith in
    rw (f, g, same) refl
split_again (suc (suc (suc k))) b cs le h = absurd (omega (arith, le))

either : (p q : Bool) → (p || q) ≡ true → (p ≡ true) ⊎ (q ≡ true)
either true q h = inl refl
either false q h = inr h

either_from : (p q : Bool) → (p ≡ true) ⊎ (q ≡ true) → (p || q) ≡ true
either_from true q h = refl
either_from false q (inl h) = absurd cc
either_from false q (inr h) = h

-- what proper arcs are
proper_parts : (a b : ℕ) (cs : List ℕ) → are_proper (a ∷ b ∷ cs) ≡ true → (a ≤ 2) × ((2 ≤ a) ⊎ (b < 40))
proper_parts a b cs h =
    let parts = and_parts (leb a 2) (leb 2 a || ltb b 40) h in
    (leb-true a 2 parts.0, elim (either (leb 2 a) (ltb b 40) parts.1) [ inl p ↦ inl (leb-true 2 a p) | inr q ↦ inr (ltb-true b 40 q) ])

-- the octets of arcs are read as the arcs
pub arcs_again : (arcs : List ℕ) → are_proper arcs ≡ true → arcs_of (oid_octets arcs) ≡ arcs
arcs_again [] h = absurd cc
arcs_again (a ∷ []) h = absurd cc
arcs_again (a ∷ b ∷ cs) h =
    let parts = proper_parts a b cs h in
    ap arcs_of_numbers (numbers_read ((a * 40 + b) ∷ cs)) ∙ split_again a b cs parts.0 parts.1

-- the arcs of a first number are proper
split_proper : (n : ℕ) (ns : List ℕ) → are_proper (arcs_of_numbers (n ∷ ns)) ≡ true
split_proper n ns =
    elim (cases_Bool (ltb n 40)) [
      | inl t ↦ rw t (and_from (leb 0 2) (leb 2 0 || ltb n 40) refl t)
      | inr f ↦ elim (cases_Bool (ltb n 80)) [
        | inl t ↦ let small : ltb (n - 40) 40 ≡ true = lt-ltb _ _ (omega (arith, ltb-true n 80 t)) in rw (f, t) (and_from (leb 1 2) (leb 2 1 || ltb (n - 40) 40) refl small)
        | inr g ↦ rw (f, g) refl
      ]
    ]

-- an identifier has a number
some_number : (bs : List ℕ) (n : ℕ) → are_arcs false bs ≡ true → 0 < length (numbers_after n bs)
unfolding numbers_after
some_number [] n h = absurd cc
some_number (b ∷ bs) n h =
    elim (cases_Bool (ltb b 128)) [
      | inl t ↦ rw t (omega arith)
      | inr f ↦ rw f (some_number bs (n * 128 + (b - 128)) (rw f at h))
    ]

first_number : (x : List ℕ) → is_oid x ≡ true → 0 < length (numbers_after 0 x)
unfolding numbers_after
first_number [] h = absurd cc
first_number (b ∷ bs) h =
    let parts = and_parts (not (true && eqb b 128)) (are_arcs (ltb b 128) bs) h in
    elim (cases_Bool (ltb b 128)) [
      | inl t ↦ rw t (omega arith)
      | inr f ↦ rw f (some_number bs (0 * 128 + (b - 128)) (rw f at parts.1))
    ]

pub proper_of : (x : List ℕ) → is_oid x ≡ true → are_proper (arcs_of x) ≡ true
proper_of x h = go (numbers_after 0 x) (first_number x h)
  where
    go : (ns : List ℕ) → 0 < length ns → are_proper (arcs_of_numbers ns) ≡ true
    go [] pos = absurd (omega (arith, pos))
    go (n ∷ ns) pos = split_proper n ns

-- ---- texts

-- one text, one list of arcs
pub text_arcs : (a b : List ℕ) → are_proper a ≡ true → are_proper b ≡ true → dotted a ≡ dotted b → a ≡ b
text_arcs a b p q e = sym (proper_said a p) ∙ ap (said 0) e ∙ proper_said b q
  where
    proper_said : (arcs : List ℕ) → are_proper arcs ≡ true → said 0 (dotted arcs) ≡ arcs
    proper_said [] h = absurd cc
    proper_said (x ∷ []) h = absurd cc
    proper_said (x ∷ y ∷ zs) h = arcs_said x (y ∷ zs)

-- good arcs are proper
good_proper : (arcs : List ℕ) → are_good arcs ≡ true → are_proper arcs ≡ true
good_proper [] h = absurd cc
good_proper (a ∷ []) h = absurd cc
good_proper (a ∷ b ∷ cs) h =
    let parts = and_parts _ _ h in
    let both = and_parts (leb a 2) (leb b (second_limit a)) parts.0 in
    and_from (leb a 2) (leb 2 a || ltb b 40) both.0 (either_from (leb 2 a) (ltb b 40) (elim (cases_Bool (ltb a 2)) [
      | inl t ↦ let le : b ≤ 39 = leb-true b 39 (rw t at both.1) in inr (lt-ltb b 40 (omega (arith, le)))
      | inr f ↦ inl (le-leb 2 a (ltb-false a 2 f))
    ]))

-- and proper arcs that aren't past the largest are good
proper_good : (arcs : List ℕ) → are_proper arcs ≡ true → are_small arcs ≡ true → are_good arcs ≡ true
proper_good [] h small = absurd cc
proper_good (a ∷ []) h small = absurd cc
proper_good (a ∷ b ∷ cs) h small =
    let parts = proper_parts a b cs h in
    let tail = and_parts (leb a largest_arc) _ small in
    let rest = and_parts (leb b largest_arc) _ tail.1 in
    let second : leb b (second_limit a) ≡ true = elim (cases_Bool (ltb a 2)) [
      | inl t ↦ rw t (elim parts.1 [ inl two ↦ absurd (omega (arith, two, ltb-true a 2 t)) | inr lt ↦ le-leb b 39 (omega (arith, lt)) ])
      | inr f ↦ rw f rest.0
    ] in
    and_from _ _ (and_from (leb a 2) (leb b (second_limit a)) (le-leb a 2 parts.0) second) rest.1

-- what a text names is shown as the text
pub named_shown : (text octets : List ℕ) → Names text octets → (is_oid octets ≡ true) × (dotted (arcs_of octets) ≡ text)
named_shown text octets n =
    let proper = good_proper n.0 n.1 in
    (ap is_oid (sym n.3) ∙ oid_is n.0 proper, ap (λ (x : List ℕ). dotted (arcs_of x)) (sym n.3) ∙ ap dotted (arcs_again n.0 proper) ∙ n.2)

-- and the other way round
pub shown_named : (x : List ℕ) → IsBytes x → is_oid x ≡ true → are_small (arcs_of x) ≡ true → Names (dotted (arcs_of x)) x
shown_named x bytes h small = (arcs_of x, proper_good (arcs_of x) (proper_of x h) small, refl, octets_again x bytes h)
