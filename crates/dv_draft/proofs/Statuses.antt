-- The failure bits of a status.
use Rattle.std.proofs.Common.{◌≡◌, ◌≢◌, ◌&&◌, ℕ, zero, suc, ◌-◌, ◌<◌, ◌≤◌, ◌^◌, ◌%◌, eqb, Bool, true, false, Option, Some, None, List, refl, sym, ap, subst, ◌∙◌, inl, inr, arith}
use Rattle.std.proofs.lemmas.Bool.{cases_Bool, eqb-true, leb-true}
use Rattle.std.proofs.Math.Logic.{∥∥₁_elim}
use Rattle.std.specs.Borrow.{Bor}
use Rattle.std.specs.Coded.{le_prop}
use Rattle.std.specs.Option.{option_copied}
use Rattle.std.specs.Prelude.{is_some, option_map}
use Rattle.dv_schema.specs.Decodes.{HasSpelling}
use Rattle.dv_schema.specs.Octets.{same_octets, is_one_of}
use Rattle.dv_schema.specs.Schema.{ValueOf}
use Rattle.dv_schema.proofs.Takes.{same_self}
use Rattle.dv_status.specs.Fail.{fail_octets, fail_bits}
use Rattle.dv_status.specs.Types.{status_info}
use Rattle.dv_draft.specs.Types.{is_absent, is_one_or_none, one_bit, one_bits}
use Rattle.dv_draft.proofs.Imprints.{same_is}

-- the contents of any number give it back
number_back : (m : ℕ) → fail_bits (fail_octets m) ≡ m
number_back m =
    elim (cases_Bool (eqb (m % 16777216) 0)) [
      | inl t ↦ let z : m % 16777216 ≡ 0 = eqb-true _ _ t in rw t (omega arith)
      | inr f ↦ elim (cases_Bool (eqb (m % 65536) 0)) [
        | inl t ↦ let z : m % 65536 ≡ 0 = eqb-true _ _ t in rw (f, t) (omega arith)
        | inr g ↦ elim (cases_Bool (eqb (m % 256) 0)) [
          | inl t ↦ let z : m % 256 ≡ 0 = eqb-true _ _ t in rw (f, g, t) (omega arith)
          | inr h ↦ rw (f, g, h) (omega arith)
        ]
      ]
    ]

-- numbers of the same octets are the same
one_number : (m n : ℕ) → fail_octets m ≡ fail_octets n → m ≡ n
one_number m n e = sym (number_back m) ∙ ap fail_bits e ∙ number_back n

-- none of the first so many bits alone
pub none_alone : (n m : ℕ) → ((b : ℕ) → b < n → m ≢ 2 ^ (31 - b)) → is_one_of (one_bits n) (fail_octets m) ≡ false
none_alone zero m none = refl
none_alone (suc n) m none =
    let more : is_one_of (one_bits n) (fail_octets m) ≡ false = none_alone n m (λ b lt. none b (omega arith)) in
    elim (cases_Bool (same_octets (fail_octets m) (one_bit n))) [
      | inl same ↦
          absurd (none n (omega arith) (one_number m (2 ^ (31 - n)) (same_is (fail_octets m) (one_bit n) same)))
      | inr other ↦ rw (other, more) refl
    ]

-- one of the first so many bits alone
pub one_alone : (n b : ℕ) → b < n → is_one_of (one_bits n) (one_bit b) ≡ true
one_alone zero b lt = absurd (omega arith)
one_alone (suc n) b lt =
    elim (cases_Bool (same_octets (one_bit b) (one_bit n))) [
      | inl same ↦ rw same refl
      | inr other ↦
          let ne : b ≢ n = λ (e : b ≡ n). let same : same_octets (one_bit b) (one_bit n) ≡ true = subst (λ (k : ℕ). same_octets (one_bit b) (one_bit k) ≡ true) e (same_self (one_bit b)) in absurd cc in
          rw other (one_alone n b (omega arith))
    ]

-- the number of a status that was read
pub status_small : (v : ValueOf (status_info 48)) → ∥ HasSpelling (status_info 48) v ∥₁ → v.0 ≤ 6
unfolding HasSpelling
status_small v h = ∥∥₁_elim h (hlevel le_prop) (λ f. leb-true _ _ f.0.2.0.2)

-- a set that isn't one of them
pub several : (t : Bool) (fail : Option ℕ) (f : ℕ) → fail ≡ Some f → is_one_of (one_bits 27) (fail_octets f) ≡ false → (t && is_one_or_none (option_map fail_octets fail)) ≡ false
several true fail f is none = ap (λ (o : Option ℕ). is_one_or_none (option_map fail_octets o)) is ∙ none
several false fail f is none = refl

-- texts that aren't there
absent : (text : Option (Bor (List ℕ))) → is_some text ≡ false → (is_absent (option_copied text) ≡ true) × (◌≡◌ {A = Option (List ℕ)} None (option_copied text))
absent None e = (refl, refl)
absent (Some t) e = absurd cc

-- a status with one bit
pub with_one : (status : ℕ) (text : Option (Bor (List ℕ))) (fail : Option ℕ) (f b : ℕ) → is_some text ≡ false → fail ≡ Some f → b ≤ 26 → fail_octets f ≡ one_bit b
    → ((is_absent (option_copied text) && is_one_or_none (option_map fail_octets fail)) ≡ true)
    × (◌≡◌ {A = ValueOf (status_info 160)} (status, (None, (Some (one_bit b), tt))) (status, (option_copied text, (option_map fail_octets fail, tt))))
with_one status text fail f b none is le same =
    let a = absent text none in
    let one : is_one_of (one_bits 27) (fail_octets f) ≡ true = ap (is_one_of (one_bits 27)) same ∙ one_alone 27 b (omega arith) in
    let bits : is_one_or_none (option_map fail_octets fail) ≡ true = ap (λ (o : Option ℕ). is_one_or_none (option_map fail_octets o)) is ∙ one in
    let octets : ◌≡◌ {A = Option (List ℕ)} (Some (one_bit b)) (option_map fail_octets fail) = ap (λ (o : List ℕ). Some o) (sym same) ∙ sym (ap (option_map fail_octets) is) in
    let make : Option (List ℕ) → Option (List ℕ) → ValueOf (status_info 160) = λ t o. (status, (t, (o, tt))) in
    (ap (λ (t : Bool). t && is_one_or_none (option_map fail_octets fail)) a.0 ∙ bits, ap (λ (t : Option (List ℕ)). make t (Some (one_bit b))) a.1 ∙ ap (make (option_copied text)) octets)
