-- Walks through a graph, and the least of them.
use Rattle.std.specs.Prelude.{◌≡◌, ◌<◌, ◌≤◌, ◌+◌, ◌-◌, ◌⊎◌, ℕ, Bool, false, List, ◌∷◌, length, slice_get, slice_index, slice_index_or, Some, IfSome, IsTrue, All, Any}
use Rattle.dv_walks.specs.declared.walk.TheConstants.{WALK_LIMIT}
use Rattle.dv_walks.specs.Graph.{GraphState, leads, ends_at, limit_of}

-- A node may stand in a walk with so many nodes between the start and it: it has no limit, or one of at least so many.
abbrev pub KeepsLimit : GraphState → ℕ → ℕ → Type 0
KeepsLimit graph node between = IfSome (limit_of graph node) (λ bound. between ≤ bound)

-- The list is a walk from the start: it is not too long, its first node is the start, its nodes are the graph's, each leads to
-- the next, a walk may end at the last, and each node behind the start keeps its limit. A node may stand in it twice.
pub record IsWalk (graph : GraphState) (start : ℕ) (walk : List ℕ) : Type 0 where
  pub short : length walk ≤ WALK_LIMIT
  pub first : slice_get walk 0 ≡ Some start
  pub nodes : All (λ node. node < graph.size) walk
  pub joined : (i : ℕ) → i + 1 < length walk → IsTrue (leads graph (slice_index walk i) (slice_index walk (i + 1)))
  pub ended : IsTrue (ends_at graph (slice_index walk (length walk - 1)))
  pub limited : (i : ℕ) → i + 1 < length walk → KeepsLimit graph (slice_index walk (i + 1)) i

-- The row allows each member of the walk.
abbrev pub Allows : List ℕ → List Bool → Type 0
Allows walk row = All (λ node. IsTrue (slice_index_or row node false)) walk

-- One of the rows allows each member of the walk.
abbrev pub IsAllowed : List (List Bool) → List ℕ → Type 0
IsAllowed rows walk = Any (Allows walk) rows

-- Of two lists that are as long, the first has the smaller number at the first place where they differ.
abbrev pub IsLower : List ℕ → List ℕ → Type 0
IsLower (x ∷ a) (y ∷ b) = (x < y) ⊎ ((x ≡ y) × IsLower a b)
IsLower _ _ = ⊥

-- A list is before another: it is shorter, or as long and lower.
abbrev pub IsBefore : List ℕ → List ℕ → Type 0
IsBefore a b = (length a < length b) ⊎ ((length a ≡ length b) × IsLower a b)

-- The list is a walk that is allowed, and no other is before it.
pub record IsLeastWalk (graph : GraphState) (rows : List (List Bool)) (start : ℕ) (walk : List ℕ) : Type 0 where
  pub walks : IsWalk graph start walk
  pub allowed : IsAllowed rows walk
  pub least : (other : List ℕ) → IsWalk graph start other → IsAllowed rows other → ¬ IsBefore other walk
