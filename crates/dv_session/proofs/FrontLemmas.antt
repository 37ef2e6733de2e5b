-- Octets begin with one header at most, and what their first octets say of them stays true however they go on.
use Rattle.std.proofs.Common.{◌≡◌, ◌≢◌, inl, inr, ◌∙◌, ℕ, ◌+◌, ◌-◌, ◌<◌, ◌≤◌, min, List, [], ◌∷◌, ◌++◌, length, get_or, take, drop, refl, sym, ap, subst, append_assoc, length-append, arith}
use Rattle.std.specs.Int.Digits.{digits_of, number_from_digits}
use Rattle.std.proofs.lemmas.Int.Digits.{number_digits_of}
use Rattle.std.proofs.lemmas.Bool.{cases_lt}
use Rattle.std.proofs.lemmas.List.{append-nil, length-take, length-drop, take_at, take_all, take_min, take-append-le, take-append-drop, nil_from_length}
use Rattle.std.proofs.lemmas.Slice.{take-put_mid}
use Rattle.std.proofs.Math.Seq.{take-append-add}
use borrow.Rule.Slice.PartMut.{put_mid}
use Rattle.dv_schema.specs.Tlv.{length_octets}
use Rattle.dv_session.specs.declared.front.Front.{Front}
use Rattle.dv_session.specs.declared.front.Front.TheVariants.{Need, Whole, Bad}
use Rattle.dv_session.specs.Headers.{Tells}
use Rattle.dv_session.specs.Requests.{header_of, IsHeader, HasHeader, NeedsMore, HasNoHeader}
use Rattle.dv_session.proofs.HeaderLemmas.{few_digits, length_octets-short, length_octets-long}

-- ---- one header

-- two lists of one length in front of one list
same_digits : (ds es x y : List ℕ) → length ds ≡ length es → ds ++ x ≡ es ++ y → ds ≡ es
same_digits ds es x y size same =
    sym (take_at ds x (length es) size) ∙ ap (take (length es)) same ∙ take_at es y (length es) refl

-- what the first octet of a length is, and the digits behind a long one
same_length : (n m : ℕ) (x y : List ℕ) → length_octets n ++ x ≡ length_octets m ++ y → n ≡ m
same_length n m x y same =
    elim (cases_lt n 128) [
      | inl n_short ↦ elim (cases_lt m 128) [
        | inl m_short ↦ first (n ∷ []) (m ∷ []) (length_octets-short n n_short) (length_octets-short m m_short)
        | inr m_long ↦ absurd (omega (arith, first (n ∷ []) (long m) (length_octets-short n n_short) (length_octets-long m m_long)))
      ]
      | inr n_long ↦ elim (cases_lt m 128) [
        | inl m_short ↦ absurd (omega (arith, first (long n) (m ∷ []) (length_octets-long n n_long) (length_octets-short m m_short)))
        | inr m_long ↦
            let count = first (long n) (long m) (length_octets-long n n_long) (length_octets-long m m_long) in
            let behind = ap (drop 1) (all (long n) (long m) (length_octets-long n n_long) (length_octets-long m m_long)) in
            let digits = same_digits (digits_of 256 n) (digits_of 256 m) x y (omega (arith, count)) behind in
            sym (number_digits_of 256 n (omega arith)) ∙ ap (number_from_digits 256) digits ∙ number_digits_of 256 m (omega arith)
      ]
    ]
  where
    long : ℕ → List ℕ
    long n = (128 + length (digits_of 256 n)) ∷ digits_of 256 n

    all : (a b : List ℕ) → length_octets n ≡ a → length_octets m ≡ b → a ++ x ≡ b ++ y
    all a b is also = ap (λ (l : List ℕ). l ++ x) (sym is) ∙ same ∙ ap (λ (l : List ℕ). l ++ y) also

    first : (a b : List ℕ) → length_octets n ≡ a → length_octets m ≡ b → get_or (a ++ x) 0 0 ≡ get_or (b ++ y) 0 0
    first a b is also = ap (λ (l : List ℕ). get_or l 0 0) (all a b is also)

-- octets begin with one header at most
same_header : (n m : ℕ) (x y : List ℕ) → header_of n ++ x ≡ header_of m ++ y → n ≡ m
same_header n m x y same = same_length n m x y (ap (drop 1) same)

-- so the value that begins there has one length
pub same_total : (front : List ℕ) (m n : ℕ) → HasHeader front m → HasHeader front n → m ≡ n
same_total front m n first second =
    let both : header_of first.3.0 ++ first.1 ≡ header_of second.3.0 ++ second.1 =
    sym (ap (λ (l : List ℕ). l ++ first.1) first.3.1) ∙ sym first.2 ∙ second.2 ∙ ap (λ (l : List ℕ). l ++ second.1) second.3.1 in
    let contents = same_header first.3.0 second.3.0 first.1 second.1 both in
    let octets : length first.0 ≡ length second.0 = ap length (first.3.1 ∙ ap header_of contents ∙ sym second.3.1) in
    omega (arith, contents, octets, first.3.2, second.3.2)

-- ---- octets that go on

-- a header stays there
pub header_more : (front more : List ℕ) (total : ℕ) → HasHeader front total → HasHeader (front ++ more) total
header_more front more total has =
    (has.0, has.1 ++ more, ap (λ (l : List ℕ). l ++ more) has.2 ∙ append_assoc has.0 has.1 more, has.3)

-- octets that begin none never do
pub no_header_more : (front more : List ℕ) → HasNoHeader front → HasNoHeader (front ++ more)
no_header_more front more never octets behind after total is same =
    never octets (more ++ behind) after total is (sym (append_assoc front more behind) ∙ same)

-- a header that ends in the first octets begins these
header_within : (front more : List ℕ) (total : ℕ) (has : HasHeader (front ++ more) total) → length has.0 ≤ length front → HasHeader front total
header_within front more total has within =
    let size = length has.0 in
    let is : take size front ≡ has.0 =
    sym (take-append-le size front more within) ∙ ap (take size) has.2 ∙ take_at has.0 has.1 size refl in
    (has.0, drop size front, sym (take-append-drop size front) ∙ ap (λ (l : List ℕ). l ++ drop size front) is, has.3)

-- ---- one answer

-- octets that are less than a header begin with none
needs_no_header : (front : List ℕ) (total : ℕ) → NeedsMore front → HasHeader front total → ⊥
needs_no_header front total needs has =
    let more = needs.0 in
    let whole : front ++ more ≡ header_of has.3.0 ++ (has.1 ++ more) =
    ap (λ (l : List ℕ). l ++ more) has.2 ∙ append_assoc has.0 has.1 more ∙ ap (λ (l : List ℕ). l ++ (has.1 ++ more)) has.3.1 in
    let contents : has.3.0 ≡ needs.3.0 =
    same_header has.3.0 needs.3.0 (has.1 ++ more) [] (sym whole ∙ needs.3.1 ∙ sym (append-nil (header_of needs.3.0))) in
    let size : length has.0 ≡ length (front ++ more) = ap length (has.3.1 ∙ ap header_of contents ∙ sym needs.3.1) in
    let within : length front ≡ length has.0 + length has.1 = ap length has.2 ∙ length-append has.0 has.1 in
    needs.2 (nil_from_length more (omega (arith, size, within, length-append front more)))

-- and go on to one
pub needs_some_header : (front : List ℕ) → NeedsMore front → HasNoHeader front → ⊥
needs_some_header front needs never = never (front ++ needs.0) needs.0 [] needs.1 needs.3 (sym (append-nil (front ++ needs.0)))

-- octets with a header aren't octets without one
pub has_some_header : (front : List ℕ) (total : ℕ) → HasHeader front total → HasNoHeader front → ⊥
has_some_header front total has never = never has.0 [] has.1 total has.3 (append-nil front ∙ has.2)

-- so octets have one answer
pub same_answer : (front : List ℕ) (said other : Front) → Tells front said → Tells front other → said ≡ other
same_answer front Need Need one two = refl
same_answer front Need (Whole n) one two = absurd (needs_no_header front n one two)
same_answer front Need Bad one two = absurd (needs_some_header front one two)
same_answer front (Whole m) Need one two = absurd (needs_no_header front m two one)
same_answer front (Whole m) (Whole n) one two = ap Whole (same_total front m n one two)
same_answer front (Whole m) Bad one two = absurd (has_some_header front m one two)
same_answer front Bad Need one two = absurd (needs_some_header front two one)
same_answer front Bad (Whole n) one two = absurd (has_some_header front n two one)
same_answer front Bad Bad one two = refl

-- a header that octets which are less than one go on to is longer than these
pub needs_less : (front more : List ℕ) (total : ℕ) → NeedsMore front → HasHeader (front ++ more) total → length front < total
needs_less front more total needs has =
    elim (cases_lt (length front) (length has.0)) [
      | inl less ↦ omega (arith, less, has.3.2)
      | inr within ↦ absurd (needs_no_header front total needs (header_within front more total has within))
    ]

-- ---- the first five octets

-- a header has at most five
pub few_octets : (octets : List ℕ) (total : ℕ) → IsHeader octets total → length octets ≤ 5
few_octets octets total is =
    elim (cases_lt is.0 128) [
      | inl short ↦ omega (arith, ap length is.1, ap length (length_octets-short is.0 short))
      | inr long ↦ omega (arith, ap length is.1, ap length (length_octets-long is.0 long), few_digits is.0 (omega (arith, is.2, is.3)))
    ]

-- so they say what all the octets say
pub tells_by_five : (octets : List ℕ) (said : Front) → Tells (take 5 octets) said → Tells octets said
tells_by_five octets Need needs =
    let few : length (take 5 octets ++ needs.0) ≤ 5 = few_octets (take 5 octets ++ needs.0) needs.1 needs.3 in
    let some : 0 < length needs.0 = not_empty needs.0 needs.2 in
    let all : take 5 octets ≡ octets = take_all 5 octets (omega (arith, few, length-append (take 5 octets) needs.0, length-take 5 octets)) in
    subst NeedsMore all needs
  where
    not_empty : (l : List ℕ) → l ≢ [] → 0 < length l
    not_empty [] some = absurd (some refl)
    not_empty (x ∷ l) some = omega arith
tells_by_five octets (Whole total) has =
    subst (λ (l : List ℕ). HasHeader l total) (take-append-drop 5 octets) (header_more (take 5 octets) (drop 5 octets) total has)
tells_by_five octets Bad never =
    subst HasNoHeader (take-append-drop 5 octets) (no_header_more (take 5 octets) (drop 5 octets) never)

-- the first five octets of two lists, which were written behind one another over five others
pub five_joined : (first second zeros : List ℕ) (held more k : ℕ) → held ≡ min (length first) 5 → more ≡ min (length second) (5 - held) → length zeros ≡ 5
    → take (held + more) (put_mid held k (take held first ++ drop held zeros) (take more second)) ≡ take 5 (first ++ second)
five_joined first second zeros held more k is also size =
    let front = take held first ++ drop held zeros in
    let h : length (take held first) ≡ held = omega (arith, length-take held first) in
    let m : length (take more second) ≡ more = omega (arith, length-take more second) in
    let five : length front ≡ 5 = omega (arith, h, length-append (take held first) (drop held zeros), length-drop held zeros) in
    take-put_mid held k front (take more second) (held + more) (omega (arith, m)) (omega (arith, five))
    ∙ ap (λ (l : List ℕ). l ++ take more second) (take_at (take held first) (drop held zeros) held h) ∙ parts
  where
    parts : take held first ++ take more second ≡ take 5 (first ++ second)
    parts = elim (cases_lt (length first) 5) [
      | inl few ↦
          let all : take held first ≡ first = take_all held first (omega (arith, is)) in
          let least : more ≡ min (5 - held) (length second) = omega (arith, also) in
          let five : length first + (5 - held) ≡ 5 = omega (arith, is) in
          ap (λ (l : List ℕ). l ++ take more second) all
          ∙ ap (λ (l : List ℕ). first ++ l) (ap (λ (n : ℕ). take n second) least ∙ take_min (5 - held) second)
          ∙ sym (take-append-add first second (5 - held)) ∙ ap (λ (n : ℕ). take n (first ++ second)) five
      | inr many ↦
          let five : held ≡ 5 = omega (arith, is) in
          let none : more ≡ 0 = omega (arith, also, is) in
          ap (λ (n : ℕ). take held first ++ take n second) none ∙ append-nil (take held first) ∙ ap (λ (n : ℕ). take n first) five
          ∙ sym (take-append-le 5 first second many)
    ]
