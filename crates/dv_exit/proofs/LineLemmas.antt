-- What lines say of their values.
use Rattle.std.proofs.Common.{◌≡◌, ◌≢◌, refl, subst}
use Rattle.std.specs.Prelude.{Option, Some, None, option_map}
use Rattle.std.specs.Option.{ForSome}
use Rattle.std.specs.Borrow.{Bor}
use Rattle.dv_lines.specs.declared.faulty.NoLine.{NoLine}
use Rattle.dv_lines.specs.declared.faulty.NoLine.TheVariants.{Help, Memory, Faulty}
use Rattle.dv_lines.specs.declared.policy.Policy.{Policy}
use Rattle.dv_lines.specs.Line.{Told, policy_octets}
use Rattle.dv_draft.specs.Servers.{IsPolicyName}
use Rattle.dv_schema.specs.Tlv.{tlv}
use Rattle.dv_exit.specs.Lines.{policy_named}

-- words that are a line aren't read for want of memory alone
pub memory_fault : (fault : NoLine) (line : Option Told) → (fault ≢ Memory → line ≡ None) → (told : Told) → line ≡ Some told → fault ≡ Memory
memory_fault Memory line none told is = refl
memory_fault Help line none told is = let n : line ≡ None = none (λ e. (cc)) in (cc)
memory_fault (Faulty faulty) line none told is = let n : line ≡ None = none (λ e. (cc)) in (cc)

-- the policy of a line is one, in the form in which a server has it
pub policy_is_named : (policy : Option (Bor Policy)) → ForSome (option_map (tlv 6) (policy_named policy)) IsPolicyName
policy_is_named None = λ x is. absurd (cc)
policy_is_named (Some p) = λ x is.
    let same : tlv 6 (policy_octets p.now) ≡ x = (cc) in
    subst IsPolicyName same (p.now.few, ∣ (policy_octets p.now, p.now.good, refl) ∣₁)
