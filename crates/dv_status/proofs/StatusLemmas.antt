-- A status without texts has a spelling.
use Rattle.std.proofs.Common.{◌≡◌, ℕ, zero, suc, ◌+◌, ◌-◌, ◌^◌, ◌<◌, ◌≤◌, ltb, leb, true, Option, Some, None, List, [], ◌∷◌, ◌++◌, length, refl, ap, arith}
use Rattle.std.proofs.lemmas.Bool.{lt-ltb, le-leb}
use Rattle.std.proofs.lemmas.List.{length-append}
use Rattle.std.specs.Prelude.{option_map, IfSome, IsTrue}
use Rattle.std.specs.Option.{ForSome}
use Rattle.dv_schema.specs.Tlv.{tlv, length_octets, integer_octets}
use Rattle.dv_schema.specs.Schema.{spelling, contents, spelled_if}
use Rattle.dv_schema.specs.Fits.{Fits}
use Rattle.dv_schema.specs.Types.{number_to}
use Rattle.dv_schema.specs.Decodes.{HasSpelling}
use Rattle.dv_status.specs.Fail.{is_fail, fail_octets}
use Rattle.dv_status.specs.Types.{fail_info, status_fields, status_info}
use Rattle.dv_status.proofs.FailLemmas.{bit_alone, octets_allowed, octets_few}

-- the octets of a value with few contents
few : (tag : ℕ) (c : List ℕ) → length c < 128 → length (tlv tag c) ≡ 2 + length c
few tag c lt =
    let t : ltb (length c) 128 ≡ true = lt-ltb _ _ lt in
    rw t (omega (arith, length-append (length c ∷ []) c))

-- a status has one octet
status_octet : (n : ℕ) → n ≤ 6 → length (integer_octets n) ≡ 1
status_octet zero le = refl
status_octet (suc zero) le = refl
status_octet (suc (suc zero)) le = refl
status_octet (suc (suc (suc zero))) le = refl
status_octet (suc (suc (suc (suc zero)))) le = refl
status_octet (suc (suc (suc (suc (suc zero))))) le = refl
status_octet (suc (suc (suc (suc (suc (suc zero)))))) le = refl
status_octet (suc (suc (suc (suc (suc (suc (suc n))))))) le = absurd (omega arith)

-- so it has a spelling
number_fits : (n : ℕ) → n ≤ 6 → Fits (number_to 2 6) 31 n
number_fits n le = (omega arith, omega (arith, status_octet n le), le-leb _ _ le)

-- failure bits that are allowed, or none
abbrev pub AreAllowed : Option ℕ → Type 0
AreAllowed o = IfSome o (λ m. IsTrue (is_fail (fail_octets m)))

-- such failure bits have a spelling
fail_fits : (o : Option ℕ) → AreAllowed o → IfSome (option_map fail_octets o) (Fits fail_info 31)
fail_fits None h = tt
fail_fits (Some m) h = (omega arith, omega (arith, octets_few m), h)

-- of at most seven octets
fail_few : (o : Option ℕ) → length (spelled_if (spelling fail_info) (option_map fail_octets o)) ≤ 7
fail_few None = omega arith
fail_few (Some m) = let a = octets_few m in let b = few 3 (fail_octets m) (omega (arith, a)) in omega (arith, a, b)

-- a status with such failure bits has a spelling
pub status_fits : (n : ℕ) (o : Option ℕ) → n ≤ 6 → AreAllowed o → HasSpelling (status_info 48) (n, (None, (option_map fail_octets o, tt)))
unfolding HasSpelling
status_fits n o le allowed =
    let number : List ℕ = tlv 2 (integer_octets n) in
    let fail : List ℕ = spelled_if (spelling fail_info) (option_map fail_octets o) in
    let c : List ℕ = number ++ (fail ++ []) in
    let a = status_octet n le in
    let b = few 2 (integer_octets n) (omega (arith, a)) in
    let d = fail_few o in
    let size : length c ≤ 10 = omega (arith, a, b, d, length-append number (fail ++ []), length-append fail []) in
    let whole = few 48 c (omega (arith, size)) in
    ((omega arith, omega (arith, size), (number_fits n le, (tt, (fail_fits o allowed, tt)))), omega (arith, whole, size))

-- a failure bit alone is allowed
pub bits_allowed : (bit : Option ℕ) → ForSome bit (λ b. b ≤ 26) → AreAllowed (option_map (λ b. 2 ^ (31 - b)) bit)
bits_allowed None h = tt
bits_allowed (Some b) h = let a = bit_alone b (h b refl) in octets_allowed (2 ^ (31 - b)) a.0 a.1 a.2
