use Rattle.std.proofs.Common.{◌≡◌, List, Ok, length}
use Rattle.std.specs.List.{list_any}
use Rattle.dv_schema.specs.Schema.{ValueOf}
use Rattle.dv_schema.specs.Reading.{all_at, read}
use Rattle.dv_names.specs.Types.{extension}
use Rattle.dv_members.specs.Members.{front_of}
use Rattle.dv_answer.specs.Steps.{is_critical}
use Rattle.dv_answer.proofs.steps.any_critical.Given as goal

-- whether one is left is whether there is one
abbrev pub invariant-loop-next : goal.invariant-loop-next
invariant-loop-next l = (vs : List (ValueOf extension)) → all_at (read extension) (length l.octets) (front_of l.octets) ≡ Ok vs
    → (ws : List (ValueOf extension)) × (all_at (read extension) (length l.next.rest) l.next ≡ Ok ws) × (list_any is_critical ws ≡ list_any is_critical vs)

abbrev pub decreases-loop-next : goal.decreases-loop-next
decreases-loop-next l = length l.next.rest
