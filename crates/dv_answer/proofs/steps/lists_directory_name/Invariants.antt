use Rattle.std.proofs.Common.{◌≡◌, List, Ok, length}
use Rattle.std.specs.List.{list_any}
use Rattle.dv_schema.specs.Schema.{ValueOf}
use Rattle.dv_schema.specs.Reading.{all_at, read}
use Rattle.dv_names.specs.Types.{general_name}
use Rattle.dv_members.specs.Members.{front_of}
use Rattle.dv_answer.specs.Steps.{is_directory_name}
use Rattle.dv_answer.proofs.steps.lists_directory_name.Given as goal

-- whether one is left is whether there is one
abbrev pub invariant-loop-next : goal.invariant-loop-next
invariant-loop-next l = (vs : List (ValueOf general_name)) → all_at (read general_name) (length l.names) (front_of l.names) ≡ Ok vs
    → (ws : List (ValueOf general_name)) × (all_at (read general_name) (length l.next.rest) l.next ≡ Ok ws) × (list_any (is_directory_name l.subject) ws ≡ list_any (is_directory_name l.subject) vs)

abbrev pub decreases-loop-next : goal.decreases-loop-next
decreases-loop-next l = length l.next.rest
