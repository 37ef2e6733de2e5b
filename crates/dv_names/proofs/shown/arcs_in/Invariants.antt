use Rattle.std.proofs.Common.{◌≡◌, ◌⊎◌, ◌++◌, length, true}
use Rattle.dv_schema.specs.Rules.{is_oid}
use Rattle.dv_names.specs.Arcs.{arcs_of, numbers_after}
use Rattle.dv_names.proofs.shown.arcs_in.Given as goal

abbrev pub invariant-loop-rest : goal.invariant-loop-rest
invariant-loop-rest l =
    record {
      arcs : l.arcs.items ++ numbers_after 0 l.rest ≡ arcs_of l.oid;
      oid : (length l.rest ≡ 0) ⊎ (is_oid l.rest ≡ true);
    }

abbrev pub decreases-loop-rest : goal.decreases-loop-rest
decreases-loop-rest l = length l.rest
