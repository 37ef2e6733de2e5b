use Rattle.std.proofs.Common.{◌≡◌, List, Ok, length}
use Rattle.dv_schema.specs.Schema.{ValueOf}
use Rattle.dv_schema.specs.Reading.{all_at, read}
use Rattle.dv_cms.specs.Types.{attribute}
use Rattle.dv_x509.specs.Uses.{first_named}
use Rattle.dv_signed.specs.Attributes.{type_of}
use Rattle.dv_signed.proofs.attributes.find_values.Given as goal

-- what is found in what is left is what is found in all
abbrev pub invariant-loop-next : goal.invariant-loop-next
invariant-loop-next l = (vs : List (ValueOf attribute)) → all_at (read attribute) (length l.attributes.rest) l.attributes ≡ Ok vs
    → (ws : List (ValueOf attribute)) × (all_at (read attribute) (length l.next.rest) l.next ≡ Ok ws) × (first_named type_of l.oid ws ≡ first_named type_of l.oid vs)

abbrev pub decreases-loop-next : goal.decreases-loop-next
decreases-loop-next l = length l.next.rest
