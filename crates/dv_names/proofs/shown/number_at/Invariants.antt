use Rattle.std.proofs.Common.{◌≡◌, ℕ, min, drop, true, eqb}
use Rattle.dv_schema.specs.Rules.{are_arcs}
use Rattle.dv_names.specs.Arcs.{numbers_after}
use Rattle.dv_names.proofs.NumberLemmas.{cap}
use Rattle.dv_names.proofs.shown.number_at.Given as goal

abbrev pub invariant-loop-at : goal.invariant-loop-at
invariant-loop-at l =
    record {
      digits : (n : ℕ) × (l.number ≡ min n cap) × (numbers_after 0 l.octets ≡ numbers_after n (drop l.at l.octets));
      rule : are_arcs (eqb l.at 0) (drop l.at l.octets) ≡ true;
    }
