use Rattle.std.proofs.Common.{ℕ, ◌<◌, ◌↔◌, IsTrue, get_or, false, length, ◌≡◌}
use Rattle.dv_walks.specs.Search.{LeadsInto, Stands}
use Rattle.dv_walks.proofs.layer.layer_before.Given as goal

abbrev pub invariant-loop-node : goal.invariant-loop-node
invariant-loop-node l = (length l.layer ≡ 16) × ((k : ℕ) → k < l.node → IsTrue (get_or l.layer k false) ↔ (Stands l.graph l.usable l.place k × LeadsInto l.graph l.next k))
