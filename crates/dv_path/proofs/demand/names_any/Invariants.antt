use Rattle.std.proofs.Common.{◌≡◌, drop}
use Rattle.dv_names.specs.declared.identifiers.TheConstants.{ANY_POLICY}
use Rattle.dv_schema.specs.Octets.{is_one_of}
use Rattle.dv_path.specs.Rows.{octets_of}
use Rattle.dv_path.proofs.demand.names_any.Given as goal

-- whether it is left is whether it is one of all
abbrev pub invariant-loop-policy : goal.invariant-loop-policy
invariant-loop-policy l = is_one_of (octets_of (drop l.policy-index l.policies)) ANY_POLICY ≡ is_one_of (octets_of l.policies) ANY_POLICY
