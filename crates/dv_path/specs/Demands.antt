-- What is demanded of the policies of a path (RFC 3029 7.5; RFC 5280 6.1.1 (c), (e), (g)).
use Rattle.std.specs.Prelude.{ℕ, Bool, not, ◌&&◌, ◌||◌, List, Option, Some, None, map, option_map, IsTrue, All, Any}
use Rattle.std.specs.Borrow.{Bor}
use Rattle.dv_schema.specs.Octets.{is_one_of}
use Rattle.dv_schema.specs.Schema.{FieldsOf}
use Rattle.dv_names.specs.declared.identifiers.TheConstants.{ANY_POLICY}
use Rattle.dv_names.specs.Types.{policy_information}
use Rattle.dv_request.specs.declared.path_input.PathInput.{PathInput}
use Rattle.dv_members.specs.Members.{values_in}
use Rattle.dv_x509.specs.Types.{certificate_fields}
use Rattle.dv_x509.specs.Uses.{asserts}
use Rattle.dv_path.specs.Members.{member}

-- The identifiers of the acceptable policies, whether one of them must be asserted, and whether anyPolicy stands for itself alone.
pub record Demand : Type 0 where
  pub policies : List (List ℕ)
  pub explicit : Bool
  pub inhibit_any : Bool

-- the identifiers of policies, of which these are the contents octets of a list
abbrev pub policies_in : List ℕ → List (List ℕ)
policies_in octets = map (λ policy. policy.0) (values_in (policy_information 48) octets)

abbrev pub demand_in : PathInput → Demand
demand_in input = record { policies = policies_in input.policies.now; explicit = input.explicit; inhibit_any = input.inhibit_any }

abbrev pub demand_of : Option (Bor PathInput) → Option Demand
demand_of input = option_map (λ i. demand_in i.now) input

-- a policy of the set must be asserted: so it is asked, and the set doesn't hold anyPolicy
abbrev pub is_explicit : Demand → Bool
is_explicit d = d.explicit && not (is_one_of d.policies ANY_POLICY)

-- the certificate asserts the policy: directly, or by anyPolicy where that isn't inhibited (RFC 5280 6.1.3 (d))
abbrev pub is_asserted : Bool → List ℕ → FieldsOf certificate_fields → Bool
is_asserted inhibit_any policy v = asserts v policy || (not inhibit_any && asserts v ANY_POLICY)

-- one policy of the set is asserted by each member of the path
abbrev pub HasPolicy : Demand → List (FieldsOf certificate_fields) → List ℕ → Type 0
HasPolicy d bag path = Any (λ policy. All (λ position. IsTrue (is_asserted d.inhibit_any policy (member bag position))) path) d.policies

-- the path has such a policy, where one is demanded
abbrev pub IsAccepted : Option Demand → List (FieldsOf certificate_fields) → List ℕ → Type 0
IsAccepted None bag path = Unit {0}
IsAccepted (Some d) bag path = IsTrue (is_explicit d) → HasPolicy d bag path
