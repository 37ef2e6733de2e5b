-- What contracts see of a graph.
use Rattle.std.specs.Prelude.{◌≡◌, ◌<◌, ◌&&◌, ◌==◌, ℕ, Bool, true, false, List, [], Option, Some, None, slice_index_or, if◌then◌else◌}

-- Its nodes are the numbers below the size. Row n of the leads says at place m whether n leads to m; the ends say at which
-- nodes a walk may end; the limits are those of the nodes, where they have one.
pub record GraphState : Type 0 where
  pub size : ℕ
  pub leads : List (List Bool)
  pub ends : List Bool
  pub limits : List (Option ℕ)

-- whether one node leads to another
abbrev pub leads : GraphState → ℕ → ℕ → Bool
leads graph from to = slice_index_or (slice_index_or graph.leads from []) to false

-- whether a walk may end at a node
abbrev pub ends_at : GraphState → ℕ → Bool
ends_at graph node = slice_index_or graph.ends node false

-- the limit of a node
abbrev pub limit_of : GraphState → ℕ → Option ℕ
limit_of graph node = slice_index_or graph.limits node None

-- So many nodes, of which none leads anywhere, none ends a walk, and none has a limit.
pub record IsFresh (nodes : ℕ) (graph : GraphState) : Type 0 where
  pub size : graph.size ≡ nodes
  pub leads : (from to : ℕ) → leads graph from to ≡ false
  pub ends : (node : ℕ) → ends_at graph node ≡ false
  pub limits : (node : ℕ) → limit_of graph node ≡ None

-- One node leads to another now, and the rest is as it was.
pub record AddsLead (old new : GraphState) (from to : ℕ) : Type 0 where
  pub size : new.size ≡ old.size
  pub leads : (a b : ℕ) → leads new a b ≡ (if a == from && b == to then true else leads old a b)
  pub ends : (node : ℕ) → ends_at new node ≡ ends_at old node
  pub limits : (node : ℕ) → limit_of new node ≡ limit_of old node

-- Walks may end at one node now, and the rest is as it was.
pub record AddsEnd (old new : GraphState) (at : ℕ) : Type 0 where
  pub size : new.size ≡ old.size
  pub leads : (a b : ℕ) → leads new a b ≡ leads old a b
  pub ends : (node : ℕ) → ends_at new node ≡ (if node == at then true else ends_at old node)
  pub limits : (node : ℕ) → limit_of new node ≡ limit_of old node

-- One node has this limit now, and the rest is as it was.
pub record AddsLimit (old new : GraphState) (at bound : ℕ) : Type 0 where
  pub size : new.size ≡ old.size
  pub leads : (a b : ℕ) → leads new a b ≡ leads old a b
  pub ends : (node : ℕ) → ends_at new node ≡ ends_at old node
  pub limits : (node : ℕ) → limit_of new node ≡ (if node == at then Some bound else limit_of old node)

-- Two graphs are as large and say the same of their nodes.
pub record Agrees (a b : GraphState) : Type 0 where
  pub size : b.size ≡ a.size
  pub leads : (from to : ℕ) → from < a.size → to < a.size → leads b from to ≡ leads a from to
  pub ends : (node : ℕ) → node < a.size → ends_at b node ≡ ends_at a node
  pub limits : (node : ℕ) → node < a.size → limit_of b node ≡ limit_of a node
