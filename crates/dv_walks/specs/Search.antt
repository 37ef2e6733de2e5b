-- What the search for a walk knows at each step.
use Rattle.std.specs.Prelude.{◌≡◌, ◌<◌, ◌-◌, ◌⊎◌, ◌↔◌, ℕ, suc, Bool, false, List, [], ◌∷◌, length, slice_index_or, Vec, Option, Some, None, IsTrue}
use Rattle.std.specs.declared.alloc.Global.{Global}
use Rattle.dv_walks.specs.Graph.{GraphState, leads, ends_at}
use Rattle.dv_walks.specs.Walk.{Allows, IsBefore, IsLower, IsWalk, KeepsLimit}

-- With these usable nodes, the node may stand at this place of a walk.
pub record Stands (graph : GraphState) (usable : List Bool) (place node : ℕ) : Type 0 where
  pub inside : node < graph.size
  pub allowed : IsTrue (slice_index_or usable node false)
  pub limited : KeepsLimit graph node (place - 1)

-- From the node, which stands at this place, the nodes of the list follow to an end.
abbrev pub Follows : GraphState → List Bool → ℕ → ℕ → List ℕ → Type 0
Follows graph usable place node [] = Stands graph usable place node × IsTrue (ends_at graph node)
Follows graph usable place node (next ∷ rest) = Stands graph usable place node × IsTrue (leads graph node next) × Follows graph usable (suc place) next rest

-- Some list of so many nodes follows to an end.
abbrev pub Reaches : GraphState → List Bool → ℕ → ℕ → ℕ → Type 0
Reaches graph usable further place node = (rest : List ℕ) × (length rest ≡ further) × Follows graph usable place node rest

-- The entries say from which nodes, at this place, so many further nodes follow to an end.
abbrev pub IsLayer : GraphState → List Bool → ℕ → ℕ → List Bool → Type 0
IsLayer graph usable further place layer = (node : ℕ) → node < graph.size → IsTrue (slice_index_or layer node false) ↔ Reaches graph usable further place node

-- The node leads to another, which has an entry in the layer.
abbrev pub IsNext : GraphState → List Bool → ℕ → ℕ → Type 0
IsNext graph layer node next = IsTrue (leads graph node next) × IsTrue (slice_index_or layer next false)

-- The node leads to some such node.
abbrev pub LeadsInto : GraphState → List Bool → ℕ → Type 0
LeadsInto graph layer node = (next : ℕ) × (next < graph.size) × IsNext graph layer node next

-- The entries say which nodes may stand at this place and lead to one that has an entry in the next layer.
abbrev pub IsLayerBefore : GraphState → List Bool → ℕ → List Bool → List Bool → Type 0
IsLayerBefore graph usable place after layer = (node : ℕ) → node < graph.size →
    IsTrue (slice_index_or layer node false) ↔ (Stands graph usable place node × LeadsInto graph after node)

-- The least of the nodes to which a node leads and which have an entry.
pub record IsLeastNext (graph : GraphState) (layer : List Bool) (node next : ℕ) : Type 0 where
  pub inside : next < graph.size
  pub here : IsNext graph layer node next
  pub least : (other : ℕ) → other < next → ¬ IsNext graph layer node other

-- Of the lists of so many nodes that follow to an end, none is lower than this one.
pub record IsLeastRest (graph : GraphState) (usable : List Bool) (further place node : ℕ) (rest : List ℕ) : Type 0 where
  pub long : length rest ≡ further
  pub follows : Follows graph usable place node rest
  pub least : (other : List ℕ) → length other ≡ further → Follows graph usable place node other → ¬ IsLower other rest

-- The list is the start and such a list behind it.
abbrev pub IsLeastOf : GraphState → List Bool → ℕ → ℕ → List ℕ → Type 0
IsLeastOf graph usable further start walk = (rest : List ℕ) × (walk ≡ start ∷ rest) × IsLeastRest graph usable further 0 start rest

-- The list is a walk through usable nodes alone.
abbrev pub IsRowWalk : GraphState → List Bool → ℕ → List ℕ → Type 0
IsRowWalk graph usable start walk = IsWalk graph start walk × Allows walk usable

-- The list is such a walk, and no other is before it.
pub record IsLeastRowWalk (graph : GraphState) (usable : List Bool) (start : ℕ) (walk : List ℕ) : Type 0 where
  pub walks : IsRowWalk graph usable start walk
  pub least : (other : List ℕ) → IsRowWalk graph usable start other → ¬ IsBefore other walk

-- The one of two walks, where they are there, that is not behind the other.
abbrev pub IsLesserOf : Option (Vec ℕ Global) → Option (Vec ℕ Global) → Option (Vec ℕ Global) → Type 0
IsLesserOf None found result = result ≡ found
IsLesserOf (Some best) None result = result ≡ Some best
IsLesserOf (Some best) (Some found) result =
    ((result ≡ Some best) × (¬ IsBefore found.items best.items)) ⊎ ((result ≡ Some found) × IsBefore found.items best.items)
