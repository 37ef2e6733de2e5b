use Rattle.std.proofs.Common.{◌≡◌, ◌⊎◌, length, true}
use Rattle.dv_schema.specs.Rules.{is_oid}
use Rattle.dv_names.specs.Arcs.{are_narrow, arcs_of, numbers_after}
use Rattle.dv_names.proofs.shown.is_wide.Given as goal

abbrev pub invariant-loop-rest : goal.invariant-loop-rest
invariant-loop-rest l =
    record {
      narrow : are_narrow (arcs_of l.oid) ≡ are_narrow (numbers_after 0 l.rest);
      oid : (length l.rest ≡ 0) ⊎ (is_oid l.rest ≡ true);
    }

abbrev pub decreases-loop-rest : goal.decreases-loop-rest
decreases-loop-rest l = length l.rest
