use Rattle.std.proofs.Common.{◌≡◌, ℕ, [], ◌<◌, length}
use Rattle.std.specs.Prelude.{slice_index_or}
use Rattle.dv_lmots.specs.Lmots.{private_value}
use Rattle.dv_lmots.proofs.lanes.private_values.Given as goal

abbrev pub invariant-loop-i : goal.invariant-loop-i
invariant-loop-i l = (length l.values ≡ 34) × ((k : ℕ) → k < l.i → slice_index_or l.values k [] ≡ private_value l.id l.seed l.q k)
