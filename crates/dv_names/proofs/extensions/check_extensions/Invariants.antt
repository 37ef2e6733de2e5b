use Rattle.std.proofs.Common.{◌≡◌, ◌≤◌, ◌+◌, true, List, ℕ, [], length}
use Rattle.dv_schema.specs.Octets.{are_apart, is_one_of}
use Rattle.dv_schema.specs.Reading.{first_contents}
use Rattle.dv_schema.specs.Answers.{Keys}
use Rattle.dv_schema.proofs.Distinct.{members_at}
use Rattle.dv_names.specs.Types.{extension_fields}
use Rattle.dv_names.proofs.extensions.check_extensions.Given as goal

abbrev pub invariant-loop-next : goal.invariant-loop-next
invariant-loop-next g l = (seen : List (List ℕ)) × (ks : List (List ℕ)) × Keys first_contents 48 extension_fields ks l.contents l.next
    × ((x : List ℕ) → is_one_of seen x ≡ is_one_of ks x)
    × (members_at first_contents 48 extension_fields g.K.Known.known seen l.next ≡ members_at first_contents 48 extension_fields g.K.Known.known [] l.contents)
    × (length ks ≡ l.number) × (are_apart [] ks ≡ true) × (l.number + length l.next.rest ≤ length l.contents.rest)

abbrev pub decreases-loop-next : goal.decreases-loop-next
decreases-loop-next g l = length l.next.rest
