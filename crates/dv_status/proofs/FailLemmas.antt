-- Failure bits and their contents, both ways.
use Rattle.std.proofs.Common.{◌≡◌, ◌≢◌, ◌+◌, ◌-◌, ◌*◌, ◌^◌, ◌/◌, ◌%◌, ◌<◌, ◌≤◌, ◌&&◌, ℕ, Bool, true, false, eqb, ltb, leb, List, [], ◌∷◌, length, get_or, refl, sym, ap, inl, inr, arith}
use Rattle.std.proofs.lemmas.Bool.{ltb-true, lt-ltb, eqb-true, eqb-false, eq-eqb, cases_Bool, and_parts, ne_eqb}
use Rattle.std.proofs.lemmas.Nat.{pow-add}
use Rattle.std.proofs.Math.Nat.{pow-le-pow_right}
use Rattle.dv_schema.specs.Octets.{IsBytes}
use Rattle.dv_status.specs.Fail.{trailing, ends_so, is_fail, number_of, fail_bits, fail_octets}

-- one octet
one : (u a : ℕ) → a < 256 → u ≡ trailing a → fail_octets (number_of a 0 0 0) ≡ u ∷ a ∷ []
one u a p e =
    let m : ℕ = number_of a 0 0 0 in
    let t : eqb (m % 16777216) 0 ≡ true = eq-eqb _ _ (omega arith) in
    let d : m / 16777216 ≡ a = omega arith in
    rw (t, d) (ap (λ (k : ℕ). k ∷ a ∷ []) (sym e))

-- two octets
two : (u a b : ℕ) → a < 256 → b < 256 → 0 < b → u ≡ trailing b → fail_octets (number_of a b 0 0) ≡ u ∷ a ∷ b ∷ []
two u a b p q pos e =
    let m : ℕ = number_of a b 0 0 in
    let t1 : eqb (m % 16777216) 0 ≡ false = ne_eqb _ 0 (λ (z : m % 16777216 ≡ 0). omega arith) in
    let t2 : eqb (m % 65536) 0 ≡ true = eq-eqb _ _ (omega arith) in
    let d1 : m / 16777216 ≡ a = omega arith in
    let d2 : m / 65536 % 256 ≡ b = omega arith in
    rw (t1, t2, d1, d2) (ap (λ (k : ℕ). k ∷ a ∷ b ∷ []) (sym e))

-- three octets
three : (u a b c : ℕ) → a < 256 → b < 256 → c < 256 → 0 < c → u ≡ trailing c → fail_octets (number_of a b c 0) ≡ u ∷ a ∷ b ∷ c ∷ []
three u a b c p q r pos e =
    let m : ℕ = number_of a b c 0 in
    let t1 : eqb (m % 16777216) 0 ≡ false = ne_eqb _ 0 (λ (z : m % 16777216 ≡ 0). omega arith) in
    let t2 : eqb (m % 65536) 0 ≡ false = ne_eqb _ 0 (λ (z : m % 65536 ≡ 0). omega arith) in
    let t3 : eqb (m % 256) 0 ≡ true = eq-eqb _ _ (omega arith) in
    let d1 : m / 16777216 ≡ a = omega arith in
    let d2 : m / 65536 % 256 ≡ b = omega arith in
    let d3 : m / 256 % 256 ≡ c = omega arith in
    rw (t1, t2, t3, d1, d2, d3) (ap (λ (k : ℕ). k ∷ a ∷ b ∷ c ∷ []) (sym e))

-- four octets
four : (u a b c d : ℕ) → a < 256 → b < 256 → c < 256 → d < 256 → 0 < d → u ≡ trailing d → fail_octets (number_of a b c d) ≡ u ∷ a ∷ b ∷ c ∷ d ∷ []
four u a b c d p q r s pos e =
    let m : ℕ = number_of a b c d in
    let t1 : eqb (m % 16777216) 0 ≡ false = ne_eqb _ 0 (λ (z : m % 16777216 ≡ 0). omega arith) in
    let t2 : eqb (m % 65536) 0 ≡ false = ne_eqb _ 0 (λ (z : m % 65536 ≡ 0). omega arith) in
    let t3 : eqb (m % 256) 0 ≡ false = ne_eqb _ 0 (λ (z : m % 256 ≡ 0). omega arith) in
    let d1 : m / 16777216 ≡ a = omega arith in
    let d2 : m / 65536 % 256 ≡ b = omega arith in
    let d3 : m / 256 % 256 ≡ c = omega arith in
    let d4 : m % 256 ≡ d = omega arith in
    rw (t1, t2, t3, d1, d2, d3, d4) (ap (λ (k : ℕ). k ∷ a ∷ b ∷ c ∷ d ∷ []) (sym e))

-- what is known of the last octet
ends : (u last : ℕ) → ends_so u last ≡ true → (0 < last) × (u ≡ trailing last)
ends u last e = let p = and_parts (ltb 0 last) (eqb u (trailing last)) e in (ltb-true _ _ p.0, eqb-true _ _ p.1)

-- the number of contents gives them back
pub octets_back : (c : List ℕ) → IsBytes c → is_fail c ≡ true → fail_octets (fail_bits c) ≡ c
octets_back [] bytes e = absurd cc
octets_back (u ∷ []) bytes e = absurd cc
octets_back (u ∷ a ∷ []) bytes e = one u a (bytes 1) (ends u a e).1
octets_back (u ∷ a ∷ b ∷ []) bytes e = let h = ends u b e in two u a b (bytes 1) (bytes 2) h.0 h.1
octets_back (u ∷ a ∷ b ∷ c ∷ []) bytes e = let h = ends u c e in three u a b c (bytes 1) (bytes 2) (bytes 3) h.0 h.1
octets_back (u ∷ a ∷ b ∷ c ∷ d ∷ []) bytes e =
    let p = and_parts (ends_so u d) (leb 5 u) e in
    let h = ends u d p.0 in four u a b c d (bytes 1) (bytes 2) (bytes 3) (bytes 4) h.0 h.1
octets_back (u ∷ a ∷ b ∷ c ∷ d ∷ f ∷ rest) bytes e = absurd cc

-- the contents of a number give it back
pub bits_back : (m : ℕ) → m < 4294967296 → fail_bits (fail_octets m) ≡ m
bits_back m lt =
    elim (cases_Bool (eqb (m % 16777216) 0)) [
      | inl t ↦ let z : m % 16777216 ≡ 0 = eqb-true _ _ t in rw t (omega arith)
      | inr f ↦ elim (cases_Bool (eqb (m % 65536) 0)) [
        | inl t ↦ let z : m % 65536 ≡ 0 = eqb-true _ _ t in rw (f, t) (omega arith)
        | inr g ↦ elim (cases_Bool (eqb (m % 256) 0)) [
          | inl t ↦ let z : m % 256 ≡ 0 = eqb-true _ _ t in rw (f, g, t) (omega arith)
          | inr h ↦ rw (f, g, h) (omega arith)
        ]
      ]
    ]

-- contents by their length
pub record FailByLength (c : List ℕ) : Type 0 where
  pub n2 : length c ≡ 2 → (is_fail c ≡ ends_so (get_or c 0 0) (get_or c 1 0)) × (fail_bits c ≡ number_of (get_or c 1 0) 0 0 0)
  pub n3 : length c ≡ 3 → (is_fail c ≡ ends_so (get_or c 0 0) (get_or c 2 0)) × (fail_bits c ≡ number_of (get_or c 1 0) (get_or c 2 0) 0 0)
  pub n4 : length c ≡ 4 → (is_fail c ≡ ends_so (get_or c 0 0) (get_or c 3 0)) × (fail_bits c ≡ number_of (get_or c 1 0) (get_or c 2 0) (get_or c 3 0) 0)
  pub n5 : length c ≡ 5 → (is_fail c ≡ (ends_so (get_or c 0 0) (get_or c 4 0) && leb 5 (get_or c 0 0))) × (fail_bits c ≡ number_of (get_or c 1 0) (get_or c 2 0) (get_or c 3 0) (get_or c 4 0))
  pub others : length c ≢ 2 → length c ≢ 3 → length c ≢ 4 → length c ≢ 5 → (is_fail c ≡ false) × (fail_bits c ≡ 0)

-- and how they are read
pub fail_by_length : (c : List ℕ) → FailByLength c
fail_by_length [] = record { n2 = λ e. absurd (omega arith); n3 = λ e. absurd (omega arith); n4 = λ e. absurd (omega arith); n5 = λ e. absurd (omega arith); others = λ a b c d. (refl, refl) }
fail_by_length (u ∷ []) = record { n2 = λ e. absurd (omega arith); n3 = λ e. absurd (omega arith); n4 = λ e. absurd (omega arith); n5 = λ e. absurd (omega arith); others = λ a b c d. (refl, refl) }
fail_by_length (u ∷ a ∷ []) = record { n2 = λ e. (refl, refl); n3 = λ e. absurd (omega arith); n4 = λ e. absurd (omega arith); n5 = λ e. absurd (omega arith); others = λ a b c d. absurd (a refl) }
fail_by_length (u ∷ a ∷ b ∷ []) = record { n2 = λ e. absurd (omega arith); n3 = λ e. (refl, refl); n4 = λ e. absurd (omega arith); n5 = λ e. absurd (omega arith); others = λ a b c d. absurd (b refl) }
fail_by_length (u ∷ a ∷ b ∷ c ∷ []) = record { n2 = λ e. absurd (omega arith); n3 = λ e. absurd (omega arith); n4 = λ e. (refl, refl); n5 = λ e. absurd (omega arith); others = λ a b c d. absurd (c refl) }
fail_by_length (u ∷ a ∷ b ∷ c ∷ d ∷ []) = record { n2 = λ e. absurd (omega arith); n3 = λ e. absurd (omega arith); n4 = λ e. absurd (omega arith); n5 = λ e. (refl, refl); others = λ a b c d. absurd (d refl) }
fail_by_length (u ∷ a ∷ b ∷ c ∷ d ∷ f ∷ rest) = record { n2 = λ e. absurd (omega arith); n3 = λ e. absurd (omega arith); n4 = λ e. absurd (omega arith); n5 = λ e. absurd (omega arith); others = λ a b c d. (refl, refl) }

-- a failure bit alone, as a number
pub bit_alone : (bit : ℕ) → bit ≤ 26 → (0 < 2 ^ (31 - bit)) × (2 ^ (31 - bit) % 32 ≡ 0) × (2 ^ (31 - bit) < 4294967296)
bit_alone bit le =
    let k : ℕ = 26 - bit in
    let e : 31 - bit ≡ k + 5 = omega arith in
    let p : 2 ^ (k + 5) ≡ 2 ^ k * 2 ^ 5 = pow-add 2 k 5 in
    let two : 0 < 2 = omega arith in
    let pos : 2 ^ 0 ≤ 2 ^ k = pow-le-pow_right {n = 2} two {i = 0} {j = k} (omega arith) in
    let top : 2 ^ k ≤ 2 ^ 26 = pow-le-pow_right {n = 2} two {i = k} {j = 26} (omega arith) in
    rw e (omega (arith, p, pos), omega (arith, p), omega (arith, p, top))

-- the last octet that isn't 0 ends allowed contents
ends_well : (last : ℕ) → 0 < last → ends_so (trailing last) last ≡ true
ends_well last pos = and_from (lt-ltb _ _ pos) (eq-eqb _ _ refl)
  where
    and_from : {a b : Bool} → a ≡ true → b ≡ true → (a && b) ≡ true
    and_from p q = rw (p, q) refl

-- five bits that are 0
five : (last : ℕ) → 0 < last → last < 256 → last % 32 ≡ 0 → leb 5 (trailing last) ≡ true
five last pos lt e =
    let t1 : eqb (last % 2) 1 ≡ false = ne_eqb _ 1 (λ (z : last % 2 ≡ 1). omega arith) in
    let t2 : eqb (last % 4) 2 ≡ false = ne_eqb _ 2 (λ (z : last % 4 ≡ 2). omega arith) in
    let t3 : eqb (last % 8) 4 ≡ false = ne_eqb _ 4 (λ (z : last % 8 ≡ 4). omega arith) in
    let t4 : eqb (last % 16) 8 ≡ false = ne_eqb _ 8 (λ (z : last % 16 ≡ 8). omega arith) in
    let t5 : eqb (last % 32) 16 ≡ false = ne_eqb _ 16 (λ (z : last % 32 ≡ 16). omega arith) in
    rw (t1, t2, t3, t4, t5) (elim (cases_Bool (eqb (last % 64) 32)) [
      | inl t ↦ rw t refl
      | inr f ↦ rw f (elim (cases_Bool (eqb (last % 128) 64)) [
        | inl t ↦ rw t refl
        | inr h ↦ rw h refl
      ])
    ])

-- a set of failure bits gives allowed contents
pub octets_allowed : (m : ℕ) → 0 < m → m % 32 ≡ 0 → m < 4294967296 → is_fail (fail_octets m) ≡ true
octets_allowed m pos low lt =
    elim (cases_Bool (eqb (m % 16777216) 0)) [
      | inl t ↦ let z : m % 16777216 ≡ 0 = eqb-true _ _ t in rw t (ends_well (m / 16777216) (omega arith))
      | inr f ↦ let nz : m % 16777216 ≢ 0 = eqb-false _ _ f in elim (cases_Bool (eqb (m % 65536) 0)) [
        | inl t ↦ let z : m % 65536 ≡ 0 = eqb-true _ _ t in rw (f, t) (ends_well (m / 65536 % 256) (omega arith))
        | inr g ↦ let ng : m % 65536 ≢ 0 = eqb-false _ _ g in elim (cases_Bool (eqb (m % 256) 0)) [
          | inl t ↦ let z : m % 256 ≡ 0 = eqb-true _ _ t in rw (f, g, t) (ends_well (m / 256 % 256) (omega arith))
          | inr h ↦
              let nh : m % 256 ≢ 0 = eqb-false _ _ h in
              let a : ends_so (trailing (m % 256)) (m % 256) ≡ true = ends_well (m % 256) (omega arith) in
              let b : leb 5 (trailing (m % 256)) ≡ true = five (m % 256) (omega arith) (omega arith) (omega arith) in
              rw (f, g, h, a, b) refl
        ]
      ]
    ]

-- contents have at most five octets
pub octets_few : (m : ℕ) → length (fail_octets m) ≤ 5
octets_few m =
    elim (cases_Bool (eqb (m % 16777216) 0)) [
      | inl t ↦ rw t (omega arith)
      | inr f ↦ elim (cases_Bool (eqb (m % 65536) 0)) [
        | inl t ↦ rw (f, t) (omega arith)
        | inr g ↦ elim (cases_Bool (eqb (m % 256) 0)) [
          | inl t ↦ rw (f, g, t) (omega arith)
          | inr h ↦ rw (f, g, h) (omega arith)
        ]
      ]
    ]
