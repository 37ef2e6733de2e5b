-- The policy that the server's line names.
use Rattle.std.proofs.Common.{◌≡◌, ap}
use Rattle.std.specs.Prelude.{Option, Some, None, option_map}
use Rattle.std.specs.Option.{option_copied}
use Rattle.std.specs.Borrow.{Bor}
use Rattle.dv_lines.specs.declared.policy.Policy.{Policy}
use Rattle.dv_lines.specs.Line.{policy_octets}
use Rattle.dv_exit.specs.Lines.{policy_named}

-- the policy of a line, lent
pub named_policy : (lent : Option (Bor Policy)) (policy : Option Policy) → option_copied lent ≡ policy → policy_named lent ≡ option_map policy_octets policy
named_policy None policy is = ap (option_map policy_octets) is
named_policy (Some p) policy is = ap (option_map policy_octets) is
