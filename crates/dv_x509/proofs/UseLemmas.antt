-- What a certificate's extensions say.
use Rattle.std.proofs.Common.{◌≡◌, ◌≤◌, ◌<◌, ◌+◌, ◌-◌, ◌*◌, ◌/◌, ◌^◌, ◌%◌, ◌||◌, ◌++◌, not, ℕ, zero, suc, Bool, true, false, cond, eqb, ltb, Option, Some, None, Ok, List, [], ◌∷◌, length, take, inl, inr, refl, sym, ap, ◌∙◌, arith}
use Rattle.std.specs.Prelude.{is_some, option_map}
use Rattle.std.proofs.Math.Seq.{take-append_seam}
use Rattle.std.proofs.Math.Nat.{pow-le-pow_right}
use Rattle.std.proofs.lemmas.Bool.{and_parts, cases_Bool, lt-ltb, ltb-false, not-true}
use Rattle.std.proofs.lemmas.Grind.{pow_more}
use Rattle.std.proofs.lemmas.Int.Digits.{number_after_ge}
use Rattle.std.specs.Int.Digits.{number_from_digits}
use Rattle.dv_schema.specs.Octets.{IsBytes, is_one_of, same_octets}
use Rattle.dv_schema.specs.Schema.{Schema, FieldsOf, ValueOf, contents, key_place, spelling}
use Rattle.dv_schema.specs.Tlv.{length_octets, tlv}
use Rattle.dv_schema.specs.Types.{list_of}
use Rattle.dv_schema.specs.Clear.{is_clear}
use Rattle.dv_schema.specs.Reading.{Spot, all_at, read}
use Rattle.dv_schema.proofs.Takes.{takes}
use Rattle.dv_names.specs.declared.identifiers.TheConstants.{AUTHORITY_KEY_IDENTIFIER, BASIC_CONSTRAINTS, CERTIFICATE_POLICIES, EXTENDED_KEY_USAGE, KEY_USAGE, SUBJECT_KEY_IDENTIFIER}
use Rattle.dv_x509.specs.Members.{front_of, values_in}
use Rattle.dv_x509.specs.Types.{certificate, certificate_fields, is_bound, known_identifiers}
use Rattle.dv_x509.specs.Uses.{bit_at, bits_below, bound_of, first_named, is_named}
use Rattle.dv_x509.proofs.MemberLists.{values_are, values_read}

-- no octets are no values
pub none_in : (s : Schema) → values_in s [] ≡ []
unfolding values_in all_at
none_in s = refl

-- a list that was read under its tag is read again from its contents
pub list_again : (s : Schema) (octets contents : List ℕ) (q : Spot) → is_clear s ≡ true → IsBytes octets → read (list_of 48 true s) (front_of octets) ≡ Ok (contents, q)
    → all_at (read s) (length contents) (front_of contents) ≡ Ok (values_in s contents)
list_again s octets contents q clear bytes e =
    let k = (takes (list_of 48 true s) (front_of octets) (contents, q) bytes e).1.2 in
    values_read s true 31 contents k.0 clear (omega arith) k.1 k.2 ∙ ap (λ (vs : List (ValueOf s)). Ok vs) (sym (values_are s true 31 contents k.0 clear (omega arith) k.1 k.2))

-- what stands for a value is there where the value is
mapped : {X A : Type 0} (view : X → A) (r : Option X) → is_some r ≡ is_some (option_map view r)
mapped view None = refl
mapped view (Some x) = refl

named : {A : Type 0} (name : A → List ℕ) (id : List ℕ) (vs : List A) → is_some (first_named name id vs) ≡ is_named name id vs
named name id [] = refl
named name id (v ∷ vs) =
    elim (cases_Bool (same_octets id (name v))) [
      | inl t ↦ rw t refl
      | inr f ↦ rw f (named name id vs)
    ]

-- a value with the name was found exactly where there is one
pub found_named : {X A : Type 0} (view : X → A) (name : A → List ℕ) (id : List ℕ) (r : Option X) (vs : List A) → option_map view r ≡ first_named name id vs → is_some r ≡ is_named name id vs
found_named view name id r vs h = mapped view r ∙ ap is_some h ∙ named name id vs

-- a bound of three octets or more is past 255
pub long_bound : (c : List ℕ) → is_bound c ≡ true → 3 ≤ length c → 255 ≡ bound_of c
long_bound [] good long = absurd (omega arith)
long_bound (a ∷ []) good long = absurd (omega arith)
long_bound (a ∷ b ∷ []) good long = absurd (omega arith)
long_bound (zero ∷ b ∷ d ∷ ds) good long =
    let p = and_parts (not (ltb b 128)) _ (and_parts _ (ltb 0 128) good).0 in
    let le : 128 ≤ b = ltb-false _ _ (not-true _ p.0) in
    let ge = number_after_ge 256 (((0 * 256 + 0) * 256 + b) * 256 + d) ds (omega arith) in
    let big : ltb 255 (number_from_digits 256 (0 ∷ b ∷ d ∷ ds)) ≡ true = lt-ltb _ _ (omega arith) in
    rw big refl
long_bound (suc a ∷ b ∷ d ∷ ds) good long =
    let ge = number_after_ge 256 (((0 * 256 + suc a) * 256 + b) * 256 + d) ds (omega arith) in
    let big : ltb 255 (number_from_digits 256 (suc a ∷ b ∷ d ∷ ds)) ≡ true = lt-ltb _ _ (omega arith) in
    rw big refl

-- at most once a number
once : (k p : ℕ) → k < 2 → k * p ≤ p
once zero p lt = omega arith
once (suc zero) p lt = omega arith
once (suc (suc k)) p lt = absurd (omega arith)

-- the first n bits are below 2^n
pub bits_small : (n : ℕ) (octets : List ℕ) → bits_below n octets < 2 ^ n
bits_small zero octets = omega arith
bits_small (suc n) octets =
    let s : suc n ≡ n + 1 = omega arith in
    let p : 2 ^ suc n ≡ 2 ^ n * 2 = ap (λ (k : ℕ). 2 ^ k) s ∙ pow_more 2 n in
    let ih = bits_small n octets in
    let o = once (bit_at octets n) (2 ^ n) (omega arith) in
    omega (arith, p, ih, o)

-- the next bit fits into 16 bits, however it is shifted
pub next_fits : (bits i octet : ℕ) (octets : List ℕ) → i < 16 → bits ≡ bits_below i octets → bits + octet / 2 ^ (7 - i % 8) % 2 * (1 * 2 ^ i % 65536) < 65536
next_fits bits i octet octets lt is =
    let two : 0 < 2 = omega arith in
    let p : 2 ^ i ≤ 2 ^ 15 = pow-le-pow_right {n = 2} two {i = i} {j = 15} (omega arith) in
    let small = bits_small i octets in
    let o = once (octet / 2 ^ (7 - i % 8) % 2) (1 * 2 ^ i % 65536) (omega arith) in
    omega (arith, p, small, o, is)

-- the place past the known identifiers, by six tests
place_past : (a b c d e f : Bool) → eqb (cond a 0 (suc (cond b 0 (suc (cond c 0 (suc (cond d 0 (suc (cond e 0 (suc (cond f 0 (suc 0)))))))))))) 6 ≡ not (a || (b || (c || (d || (e || (f || false))))))
place_past true b c d e f = refl
place_past false true c d e f = refl
place_past false false true d e f = refl
place_past false false false true e f = refl
place_past false false false false true f = refl
place_past false false false false false true = refl
place_past false false false false false false = refl

-- an identifier is none of the known ones exactly where it has that place
pub unknown_place : (id : List ℕ) → eqb (key_place known_identifiers id) 6 ≡ not (is_one_of known_identifiers id)
unknown_place id =
    place_past (same_octets id KEY_USAGE) (same_octets id EXTENDED_KEY_USAGE) (same_octets id BASIC_CONSTRAINTS) (same_octets id SUBJECT_KEY_IDENTIFIER) (same_octets id AUTHORITY_KEY_IDENTIFIER) (same_octets id CERTIFICATE_POLICIES)

-- the octets of a certificate, its header being written into a longer slice
pub header_and_body : (len : ℕ) (into tail body : List ℕ) (v : FieldsOf certificate_fields) → len ≡ 1 + length (length_octets (length body)) → into ≡ 48 ∷ length_octets (length body) → body ≡ contents certificate_fields v
    → take len (into ++ tail) ++ body ≡ spelling (certificate 48) v
header_and_body len into tail body v size head is =
    let h : List ℕ = 48 ∷ length_octets (length body) in
    let n : len ≡ length h = size ∙ omega arith in
    ap (λ (k : ℕ). take k (into ++ tail) ++ body) n ∙ ap (λ (x : List ℕ). take (length h) (x ++ tail) ++ body) head ∙ ap (λ (x : List ℕ). x ++ body) (take-append_seam h tail)
    ∙ ap (λ (c : List ℕ). tlv 48 c) is
