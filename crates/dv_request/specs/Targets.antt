-- The targets of a request.
use Rattle.std.specs.Prelude.{ℕ, List}
use Rattle.dv_schema.specs.Schema.{ValueOf}
use Rattle.dv_schema.specs.Reading.{first_contents}
use Rattle.dv_members.specs.Members.{values_in}
use Rattle.dv_request.specs.Types.{target_chain}

-- those of a whole value that lists them
abbrev pub targets_in : List ℕ → List (ValueOf target_chain)
targets_in octets = values_in target_chain (first_contents octets)
