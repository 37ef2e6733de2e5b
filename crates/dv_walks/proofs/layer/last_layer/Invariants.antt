use Rattle.std.proofs.Common.{ℕ, ◌<◌, ◌↔◌, IsTrue, get_or, false, length, ◌≡◌}
use Rattle.dv_walks.specs.Search.{Reaches}
use Rattle.dv_walks.proofs.layer.last_layer.Given as goal

abbrev pub invariant-loop-node : goal.invariant-loop-node
invariant-loop-node l = (length l.layer ≡ 16) × ((k : ℕ) → k < l.node → IsTrue (get_or l.layer k false) ↔ Reaches l.graph l.usable 0 l.place k)
