-- The octets of an INTEGER that is not negative, and_parts ways.
use Rattle.std.proofs.Common.{◌≡◌, ℕ, zero, suc, ◌<◌, ◌≤◌, not, Bool, true, false, cond, eqb, ltb, List, [], ◌∷◌, get_or, refl, ap, ◌∙◌, arith}
use Rattle.std.specs.Int.Digits.{digits_of, number_from_digits}
use Rattle.std.proofs.lemmas.Int.Digits.{number_digits_of, first_digits_of}
use Rattle.std.proofs.lemmas.Bool.{ltb-false, ltb-true, lt-ltb, le-ltb, and_parts, ne_eqb, not-true}
use Rattle.dv_schema.specs.Tlv.{integer_octets, signed_octets}
use Rattle.dv_schema.specs.Rules.{is_integer, first_or}
use Rattle.dv_schema.proofs.Tools.{IsBytes, IsBytes-rest}
use Rattle.dv_schema.proofs.Octets.{digits_back}

-- a first octet that is no zero and below 128
plain_back : (b : ℕ) (bs : List ℕ) → IsBytes (b ∷ bs) → 0 < b → b < 128 → integer_octets (number_from_digits 256 (b ∷ bs)) ≡ b ∷ bs
plain_back b bs bytes pos lt =
    let back : digits_of 256 (number_from_digits 256 (b ∷ bs)) ≡ b ∷ bs = digits_back (b ∷ bs) bytes pos in
    let t : ltb b 128 ≡ true = lt-ltb _ _ lt in
    ap signed_octets back ∙ rw t refl

-- a zero octet before a first octet of 128 or more
zero_back : (b : ℕ) (bs : List ℕ) → IsBytes (b ∷ bs) → 128 ≤ b → integer_octets (number_from_digits 256 (0 ∷ b ∷ bs)) ≡ 0 ∷ b ∷ bs
zero_back b bs bytes le =
    let back : digits_of 256 (number_from_digits 256 (b ∷ bs)) ≡ b ∷ bs = digits_back (b ∷ bs) bytes (omega arith) in
    let t : ltb b 128 ≡ false = le-ltb _ _ le in
    ap signed_octets back ∙ rw t refl

-- the least octets of a number that was read are those it was read from
pub number_back : (c : List ℕ) → IsBytes c → is_integer c ≡ true → first_or c < 128 → integer_octets (number_from_digits 256 c) ≡ c
number_back [] bytes e lt = absurd cc
number_back (zero ∷ []) bytes e lt = refl
number_back (suc b ∷ []) bytes e lt = plain_back (suc b) [] bytes (omega arith) lt
number_back (zero ∷ d ∷ cs) bytes e lt =
    let p = and_parts (not (ltb d 128)) _ e in
    let le : 128 ≤ d = ltb-false _ _ (not-true _ p.0) in
    zero_back d cs (IsBytes-rest 0 (d ∷ cs) bytes) le
number_back (suc b ∷ d ∷ cs) bytes e lt = plain_back (suc b) (d ∷ cs) bytes (omega arith) lt

-- contents with such a first octet are those of an INTEGER
small_integer : (b : ℕ) (cs : List ℕ) → 0 < b → b < 128 → is_integer (b ∷ cs) ≡ true
small_integer b [] pos lt = refl
small_integer b (d ∷ cs) pos lt =
    let t0 : eqb b 0 ≡ false = ne_eqb b 0 (λ (e : b ≡ 0). omega arith) in
    let t1 : eqb b 255 ≡ false = ne_eqb b 255 (λ (e : b ≡ 255). omega arith) in
    rw (t0, t1) refl

-- contents are those of the INTEGER n, which isn't negative
abbrev pub IsSigned : List ℕ → ℕ → Type 0
IsSigned c n = (is_integer c ≡ true) × (first_or c < 128) × (number_from_digits 256 c ≡ n)

-- digits with or without a zero octet before them are
signed_fits : (b : ℕ) (cs : List ℕ) (n : ℕ) (t : Bool) → ltb b 128 ≡ t → number_from_digits 256 (b ∷ cs) ≡ n → 0 < b → IsSigned (cond t (b ∷ cs) (0 ∷ b ∷ cs)) n
signed_fits b cs n true t e pos = (small_integer b cs pos (ltb-true _ _ t), ltb-true _ _ t, e)
signed_fits b cs n false t e pos =
    let i : is_integer (0 ∷ b ∷ cs) ≡ true = rw t refl in
    (i, omega arith, e)

-- digits made into contents are
digits_fit : (c : List ℕ) (n : ℕ) → number_from_digits 256 c ≡ n → 0 < get_or c 0 0 → IsSigned (signed_octets c) n
digits_fit [] n e first = absurd (omega arith)
digits_fit (b ∷ cs) n e first = signed_fits b cs n (ltb b 128) refl e first

-- the least octets of a number are its contents
pub number_fits : (n : ℕ) → IsSigned (integer_octets n) n
number_fits zero = (refl, omega arith, refl)
number_fits (suc n) = digits_fit (digits_of 256 (suc n)) (suc n) (number_digits_of 256 (suc n) (omega arith)) (first_digits_of 256 (suc n) (omega arith) (omega arith))
