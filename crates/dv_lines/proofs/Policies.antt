-- The identifier that a dotted decimal names, and how long it is.
use Rattle.std.proofs.Common.{◌≡◌, ◌∙◌, ℕ, zero, suc, ◌+◌, ◌*◌, ◌/◌, ◌%◌, ◌<◌, ◌≤◌, ◌&&◌, inl, inr, Bool, true, List, [], ◌∷◌, ◌++◌, length, map, Option, Some, None, refl, sym, ap, arith, eqb, leb, ltb}
use Rattle.std.specs.Str.{bytes_eq}
use Rattle.std.specs.List.{flat_map}
use Rattle.std.specs.Int.Digits.{digits_of}
use Rattle.std.proofs.lemmas.Bool.{and_parts, and_from, le-leb, leb-true, ltb-true, ltb-false, eqb-true, eqb-false, cases_Bool}
use Rattle.std.proofs.lemmas.List.{length-append, length-map}
use Rattle.std.proofs.lemmas.Int.Digits.{length-digits_of_step, length-digits_of-le}
use Rattle.std.proofs.lemmas.Slice.Eq.{bytes_eq-Decides}
use Rattle.dv_schema.specs.Tlv.{length_octets}
use Rattle.dv_names.specs.Arcs.{arc_text, are_good, dotted, IsGood, Names, number_octets, oid_octets}
use Rattle.dv_names.proofs.ArcLaws.{named_shown}
use Rattle.dv_names.proofs.ArcTexts.{said, good_said}
use Rattle.dv_lines.specs.Line.{IsPolicy}
use Rattle.dv_lines.specs.Values.{policy_of}

-- ---- an identifier has no more octets than its text

-- a number has no more digits in base 128 than one that isn't less in base 10
digits_fewer : (fuel m n : ℕ) → n ≤ fuel → m ≤ n → length (digits_of 128 m) ≤ length (digits_of 10 n)
digits_fewer zero m n le less =
    let none : m ≡ 0 = omega arith in
    omega (arith, ap (λ (k : ℕ). length (digits_of 128 k)) none)
digits_fewer (suc fuel) m n le less =
    elim (cases_Bool (ltb 0 m)) [
      | inl t ↦
          let some : 0 < m = ltb-true 0 m t in
          let before = digits_fewer fuel (m / 128) (n / 10) (omega arith) (omega arith) in
          omega (arith, before, length-digits_of_step 128 m (omega arith) some, length-digits_of_step 10 n (omega arith) (omega arith))
      | inr f ↦
          let none : m ≡ 0 = omega (arith, ltb-false 0 m f) in
          omega (arith, ap (λ (k : ℕ). length (digits_of 128 k)) none)
    ]

-- the octets of a number
number_length : (n : ℕ) → length (number_octets n) ≡ length (digits_of 128 (n / 128)) + 1
number_length n =
    length-append (map (λ d. 128 + d) (digits_of 128 (n / 128))) (n % 128 ∷ []) ∙ ap (λ (k : ℕ). k + 1) (length-map (digits_of 128 (n / 128)) (λ d. 128 + d))

-- the digits of an arc
arc_length : (n : ℕ) → length (digits_of 10 n) ≤ length (arc_text n)
arc_length n = elim (cases_Bool (eqb n 0)) [
  | inl t ↦ let z : n ≡ 0 = eqb-true n 0 t in rw z (omega arith)
  | inr f ↦ rw f (omega (arith, length-map (digits_of 10 n) (λ d. 48 + d)))
]

arc_some : (n : ℕ) → 1 ≤ length (arc_text n)
arc_some n = elim (cases_Bool (eqb n 0)) [
  | inl t ↦ let z : n ≡ 0 = eqb-true n 0 t in rw z (omega arith)
  | inr f ↦
      let other = eqb-false n 0 f in
      omega (arith, arc_length n, length-digits_of_step 10 n (omega arith) (omega arith))
]

-- an arc alone
number_fewer : (n : ℕ) → length (number_octets n) ≤ length (arc_text n)
number_fewer n = elim (cases_Bool (eqb n 0)) [
  | inl t ↦
      let z : n ≡ 0 = eqb-true n 0 t in
      let few : length (digits_of 128 (n / 128)) ≡ 0 = ap (λ (k : ℕ). length (digits_of 128 (k / 128))) z in
      omega (arith, number_length n, few, arc_some n)
  | inr f ↦
      let other = eqb-false n 0 f in
      let less = digits_fewer (n / 10) (n / 128) (n / 10) (omega arith) (omega arith) in
      omega (arith, number_length n, less, arc_length n, length-digits_of_step 10 n (omega arith) (omega arith))
]

-- the first two arcs, with the dot between them
first_fewer : (a b : ℕ) → a ≤ 2 → length (number_octets (a * 40 + b)) ≤ length (arc_text a) + 1 + length (arc_text b)
first_fewer a b le =
    let less = digits_fewer b ((a * 40 + b) / 128) b (omega arith) (omega arith) in
    omega (arith, number_length (a * 40 + b), less, arc_length b, arc_some a)

-- the arcs behind, each with its dot
more_fewer : (cs : List ℕ) → length (flat_map number_octets cs) ≤ length (flat_map (λ b. 46 ∷ arc_text b) cs)
more_fewer [] = omega arith
more_fewer (c ∷ cs) =
    omega (
      arith,
      length-append (number_octets c) (flat_map number_octets cs),
      length-append (arc_text c) (flat_map (λ b. 46 ∷ arc_text b) cs),
      number_fewer c,
      more_fewer cs,
    )

identifier_fewer : (arcs : List ℕ) → are_good arcs ≡ true → length (oid_octets arcs) ≤ length (dotted arcs)
identifier_fewer [] good = absurd cc
identifier_fewer (a ∷ []) good = absurd cc
identifier_fewer (a ∷ b ∷ cs) good =
    let tail : List ℕ = flat_map (λ b. 46 ∷ arc_text b) cs in
    let le = leb-true a 2 (and_parts _ _ (and_parts _ _ good).0).0 in
    omega (
      arith,
      length-append (number_octets (a * 40 + b)) (flat_map number_octets cs),
      length-append (arc_text a) (46 ∷ (arc_text b ++ tail)),
      length-append (arc_text b) tail,
      first_fewer a b le,
      more_fewer cs,
    )

-- ---- the identifier of a text

abbrev test : List ℕ → Bool
test text = leb (length text) 1024 && (are_good (said 0 text) && bytes_eq (dotted (said 0 text)) text)

-- a short text that names an identifier
pub policy_named : (text octets : List ℕ) → length text ≤ 1024 → Names text octets → policy_of text ≡ Some octets
unfolding policy_of
policy_named text octets short names =
    let arcs : said 0 text ≡ names.0 = ap (said 0) (sym names.2) ∙ good_said names.0 names.1 in
    let good : are_good (said 0 text) ≡ true = ap are_good arcs ∙ names.1 in
    let same : bytes_eq (dotted (said 0 text)) text ≡ true = (bytes_eq-Decides (dotted (said 0 text)) text).1 (ap dotted arcs ∙ names.2) in
    let holds : test text ≡ true = and_from _ _ (le-leb (length text) 1024 short) (and_from _ _ good same) in
    rw holds (ap (λ (l : List ℕ). Some l) (ap oid_octets arcs ∙ names.3))

-- one with an identifier
pub policy_names : (text octets : List ℕ) → policy_of text ≡ Some octets → (length text ≤ 1024) × Names text octets
unfolding policy_of
policy_names text octets is =
    elim (cases_Bool (test text)) [
      | inl t ↦
          let parts = and_parts (leb (length text) 1024) (are_good (said 0 text) && bytes_eq (dotted (said 0 text)) text) t in
          let both = and_parts (are_good (said 0 text)) (bytes_eq (dotted (said 0 text)) text) parts.1 in
          let same : Some (oid_octets (said 0 text)) ≡ Some octets = rw t at is in
          let octets_are : oid_octets (said 0 text) ≡ octets = cc in
          (leb-true (length text) 1024 parts.0, (said 0 text, both.0, (bytes_eq-Decides (dotted (said 0 text)) text).0 both.1, octets_are))
      | inr f ↦ let none : None ≡ Some octets = rw f at is in absurd cc
    ]

-- one that is too long, or names none
pub no_policy : (text : List ℕ) → ((octets : List ℕ) → length text ≤ 1024 → Names text octets → ⊥) → policy_of text ≡ None
no_policy text none = go (policy_of text) refl
  where
    go : (policy : Option (List ℕ)) → policy_of text ≡ policy → policy ≡ None
    go None is = refl
    go (Some octets) is = let names = policy_names text octets is in absurd (none octets names.0 names.1)

pub long_policy : (text : List ℕ) → 1024 < length text → policy_of text ≡ None
long_policy text long = no_policy text (λ octets short names. omega arith)

pub bad_policy : (text : List ℕ) → (IsGood text → ⊥) → policy_of text ≡ None
bad_policy text bad = no_policy text (λ octets short names. bad (names.0, names.1, names.2))

-- what holds of it
pub named_limits : (text octets : List ℕ) → length text ≤ 1024 → Names text octets → IsPolicy octets
named_limits text octets short names =
    let fewer : length octets ≤ length text =
    omega (arith, identifier_fewer names.0 names.1, ap length names.2, ap length names.3) in (
      (named_shown text octets names).0,
      omega (arith, length-append (length_octets (length octets)) octets, size_few (length octets) (omega arith)),
    )
  where
    size_few : (n : ℕ) → n ≤ 1024 → length (length_octets n) ≤ 3
    size_few n le = elim (cases_Bool (ltb n 128)) [
      | inl t ↦ rw t (omega arith)
      | inr f ↦ rw f (omega (arith, length-digits_of-le 256 2 n (omega arith) (omega arith)))
    ]

pub policy_limits : (text octets : List ℕ) → policy_of text ≡ Some octets → IsPolicy octets
policy_limits text octets is = let names = policy_names text octets is in named_limits text octets names.0 names.1
