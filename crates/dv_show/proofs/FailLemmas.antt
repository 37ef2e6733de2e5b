-- Failure bits, and the least one that is set.
use Rattle.std.proofs.Common.{◌≡◌, ◌∙◌, ◌+◌, ◌-◌, ◌<◌, ◌≤◌, ◌%◌, ℕ, Bool, true, false, eqb, ltb, sym, ap, subst, inl, inr, arith, true≢false}
use Rattle.std.specs.Prelude.{Some}
use Rattle.std.proofs.lemmas.Bool.{cases_Bool, eqb-true, ltb-true, ltb-false}
use Rattle.std.specs.Int.{bit_at}
use Rattle.dv_status.specs.Fail.{fail_bits, fail_octets}
use Rattle.dv_show.specs.Values.{IsSet}

-- the contents of any number give it back
number_back : (m : ℕ) → fail_bits (fail_octets m) ≡ m
number_back m =
    elim (cases_Bool (eqb (m % 16777216) 0)) [
      | inl t ↦ let z : m % 16777216 ≡ 0 = eqb-true _ _ t in rw t (omega arith)
      | inr f ↦ elim (cases_Bool (eqb (m % 65536) 0)) [
        | inl t ↦ let z : m % 65536 ≡ 0 = eqb-true _ _ t in rw (f, t) (omega arith)
        | inr g ↦ elim (cases_Bool (eqb (m % 256) 0)) [
          | inl t ↦ let z : m % 256 ≡ 0 = eqb-true _ _ t in rw (f, g, t) (omega arith)
          | inr h ↦ rw (f, g, h) (omega arith)
        ]
      ]
    ]

-- a bit is set in the contents exactly where the set has it
pub set_bit : (fail bit : ℕ) → (bit ≤ 31) × (bit_at fail (31 - bit) ≡ 1) → IsSet (Some (fail_octets fail)) bit
set_bit fail bit has = (has.0, ap (λ (n : ℕ). bit_at n (31 - bit)) (number_back fail) ∙ has.1)

has_bit : (fail bit : ℕ) → IsSet (Some (fail_octets fail)) bit → (bit ≤ 31) × (bit_at fail (31 - bit) ≡ 1)
has_bit fail bit set = (set.0, ap (λ (n : ℕ). bit_at n (31 - bit)) (sym (number_back fail)) ∙ set.1)

-- no bit below this one is set
abbrev pub NoneBelow : ℕ → ℕ → Type 0
NoneBelow fail bit = (lower : ℕ) → lower < bit → IsSet (Some (fail_octets fail)) lower → ⊥

pub none_below_next : (fail bit : ℕ) (test : Bool) → NoneBelow fail bit → (((bit ≤ 31) × (bit_at fail (31 - bit) ≡ 1)) → test ≡ true) → test ≡ false → NoneBelow fail (bit + 1)
none_below_next fail bit test below has unset lower lt set =
    elim (cases_Bool (ltb lower bit)) [
      | inl t ↦ below lower (ltb-true _ _ t) set
      | inr f ↦
          let le = ltb-false _ _ f in
          let same : lower ≡ bit = omega (arith, lt, le) in
          true≢false (sym (has (has_bit fail bit (subst (IsSet (Some (fail_octets fail))) same set))) ∙ unset)
    ]
