use Rattle.std.proofs.Common.{◌≡◌, ℕ, ◌+◌, ◌<◌, ◌≤◌, List, length, slice_index}
use Rattle.dv_lmots.specs.Walk.{AreWithin, GoOn}
use Rattle.dv_lmots.proofs.chains.walk_four.Given as goal

abbrev pub invariant-loop-l : goal.invariant-loop-l
invariant-loop-l l = (length l.values ≡ 34) × (length l.at ≡ 34)
    × GoOn l.id l.q l.fn.values l.fn.at l.values l.at
    × ((to : List ℕ) → AreWithin l.fn.at to
    → ((k : ℕ) → k < 4 → slice_index l.fn.at (slice_index l.places k) + l.count ≤ slice_index to (slice_index l.places k))
    → AreWithin l.at to)
