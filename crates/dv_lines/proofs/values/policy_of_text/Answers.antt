use Rattle.std.proofs.Common.{◌∙◌, sym, ap, arith, List, ℕ, Some}
use Rattle.dv_lines.proofs.Policies.{bad_policy, long_policy, named_limits, policy_named}
use Rattle.dv_lines.proofs.values.policy_of_text.Goals as goal

pub returns-then-text-gt-MOST_POLICY_OCTETS : goal.returns-then-text-gt-MOST_POLICY_OCTETS
returns-then-text-gt-MOST_POLICY_OCTETS c = λ _. long_policy c.args.text.now (omega (arith, c.if-text-gt-MOST_POLICY_OCTETS.true))

pub new-requires-clause-good : goal.new-requires-clause-good
new-requires-clause-good c = (named_limits c.args.text.now c.in-Ok.octets.items (omega (arith, c.if-text-gt-MOST_POLICY_OCTETS.false)) c.in-Ok.ensures).0

pub new-requires-clause-few : goal.new-requires-clause-few
new-requires-clause-few c = (named_limits c.args.text.now c.in-Ok.octets.items (omega (arith, c.if-text-gt-MOST_POLICY_OCTETS.false)) c.in-Ok.ensures).1

pub returns-in-Ok : goal.returns-in-Ok
returns-in-Ok c =
    policy_named c.args.text.now c.in-Ok.octets.items (omega (arith, c.if-text-gt-MOST_POLICY_OCTETS.false)) c.in-Ok.ensures
    ∙ ap (λ (l : List ℕ). Some l) (sym c.new.ensures)

pub returns-in-Err-Text : goal.returns-in-Err-Text
returns-in-Err-Text c = λ _. let refused = rw c.in-Err-Text.field-0-is at c.in-Err-Text.ensures in bad_policy c.args.text.now refused.bad
