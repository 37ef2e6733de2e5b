use Rattle.std.proofs.Common.{◌≡◌, List, Ok, length}
use Rattle.dv_schema.specs.Schema.{ValueOf}
use Rattle.dv_schema.specs.Reading.{all_at, read}
use Rattle.dv_x509.specs.Members.{front_of}
use Rattle.dv_x509.specs.Uses.{first_named}
use Rattle.dv_x509.proofs.find.find.Given as goal

-- what is found in what is left is what is found in all
abbrev pub invariant-loop-next : goal.invariant-loop-next
invariant-loop-next g l = (vs : List (ValueOf g.T.Named.schema)) → all_at (read g.T.Named.schema) (length l.contents) (front_of l.contents) ≡ Ok vs
    → (ws : List (ValueOf g.T.Named.schema)) × (all_at (read g.T.Named.schema) (length l.next.rest) l.next ≡ Ok ws) × (first_named g.T.Named.name l.id ws ≡ first_named g.T.Named.name l.id vs)

abbrev pub decreases-loop-next : goal.decreases-loop-next
decreases-loop-next g l = length l.next.rest
