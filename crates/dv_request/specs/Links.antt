-- The links of a chain.
use Rattle.std.specs.Prelude.{ℕ, List, [], Option, Some, None}
use Rattle.dv_schema.specs.Schema.{ValueOf}
use Rattle.dv_members.specs.Members.{values_in}
use Rattle.dv_request.specs.Types.{token}

-- those of the contents octets of a chain, and none where there is no chain
abbrev pub links_in : Option (List ℕ) → List (ValueOf token)
links_in None = []
links_in (Some octets) = values_in token octets
