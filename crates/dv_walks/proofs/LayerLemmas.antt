-- From which nodes an end can be reached.
use Rattle.std.proofs.Common.{◌≡◌, ◌<◌, ◌+◌, ◌-◌, ◌↔◌, inl, inr, ℕ, suc, List, [], ◌∷◌, length, Bool, true, false, refl, ap, sym, subst, subst₂, arith, IsTrue, get_or, set, Option, Some, None, is_some, MatchOption, below_more}
use Rattle.std.proofs.lemmas.List.{get_or-set_other, get_or-set_same}
use Rattle.dv_walks.specs.Graph.{GraphState, ends_at}
use Rattle.dv_walks.specs.Walk.{IsLower}
use Rattle.dv_walks.specs.Search.{Follows, IsLayer, IsLayerBefore, IsLeastNext, IsNext, IsLeastRest, LeadsInto, Reaches, Stands}

-- Where something follows a node, the node may stand there.
pub Follows-stands : (graph : GraphState) (usable : List Bool) (place node : ℕ) (rest : List ℕ) → Follows graph usable place node rest → Stands graph usable place node
Follows-stands graph usable place node [] follows = follows.0
Follows-stands graph usable place node (next ∷ rest) follows = follows.0

-- No further node follows where the walk may end.
pub Reaches-zero : (graph : GraphState) (usable : List Bool) (place node : ℕ) → Reaches graph usable 0 place node ↔ (Stands graph usable place node × IsTrue (ends_at graph node))
Reaches-zero graph usable place node = (λ reached. forth reached.0 reached.1 reached.2, λ last. ([], refl, last))
  where
    forth : (rest : List ℕ) → length rest ≡ 0 → Follows graph usable place node rest → Stands graph usable place node × IsTrue (ends_at graph node)
    forth [] none follows = follows
    forth (next ∷ rest) none follows = absurd (omega arith)

-- One node more follows where the node leads to one from which the rest follows.
pub Reaches-suc : (graph : GraphState) (usable : List Bool) (further place node : ℕ) (after : List Bool) → IsLayer graph usable further (suc place) after
    → Reaches graph usable (suc further) place node ↔ (Stands graph usable place node × LeadsInto graph after node)
Reaches-suc graph usable further place node after is_layer = (λ reached. forth reached.0 reached.1 reached.2, λ leads_on. back leads_on.0 leads_on.1)
  where
    forth : (rest : List ℕ) → length rest ≡ suc further → Follows graph usable place node rest → Stands graph usable place node × LeadsInto graph after node
    forth [] long follows = absurd (omega arith)
    forth (next ∷ rest) long follows =
        let inside = (Follows-stands graph usable (suc place) next rest follows.2).inside in
        (follows.0, (next, inside, (follows.1, (is_layer next inside).1 (rest, omega arith, follows.2))))

    back : Stands graph usable place node → LeadsInto graph after node → Reaches graph usable (suc further) place node
    back stands into =
        let rest = (is_layer into.0 into.1).0 into.2.1 in
        (into.0 ∷ rest.0, ap suc rest.1, (stands, into.2.0, rest.2))

-- The layer of a place, from that of the next.
pub IsLayer-before : (graph : GraphState) (usable : List Bool) (further place : ℕ) (after layer : List Bool) → IsLayer graph usable further (suc place) after
    → IsLayerBefore graph usable place after layer → IsLayer graph usable (suc further) place layer
IsLayer-before graph usable further place after layer is_layer before node inside =
    let more = Reaches-suc graph usable further place node after is_layer in
    (λ entry. more.1 ((before node inside).0 entry), λ reached. (before node inside).1 (more.0 reached))

-- At the last place, nothing need follow.
pub IsLeastRest-nil : (graph : GraphState) (usable : List Bool) (place node : ℕ) → Reaches graph usable 0 place node → IsLeastRest graph usable 0 place node []
IsLeastRest-nil graph usable place node reached = record {
  long = refl;
  follows = (Reaches-zero graph usable place node).0 reached;
  least = none;
}
  where
    none : (other : List ℕ) → length other ≡ 0 → Follows graph usable place node other → ¬ IsLower other []
    none [] long follows lower = lower
    none (next ∷ other) long follows lower = lower

-- The least of the next nodes, with the least list that follows it, is the least list.
pub IsLeastRest-cons : (graph : GraphState) (usable : List Bool) (further place node next : ℕ) (after : List Bool) (rest : List ℕ) → IsLayer graph usable further (suc place) after
    → Stands graph usable place node → IsLeastNext graph after node next → IsLeastRest graph usable further (suc place) next rest
    → IsLeastRest graph usable (suc further) place node (next ∷ rest)
IsLeastRest-cons graph usable further place node next after rest is_layer stands least_next least_rest = record {
  long = ap suc least_rest.long;
  follows = (stands, least_next.here.0, least_rest.follows);
  least = none;
}
  where
    none : (other : List ℕ) → length other ≡ suc further → Follows graph usable place node other → ¬ IsLower other (next ∷ rest)
    none [] long follows lower = lower
    none (first ∷ other) long follows lower = elim lower [
      | inl below ↦ least_next.least first below
          (follows.1, (is_layer first (Follows-stands graph usable (suc place) first other follows.2).inside).1 (other, omega arith, follows.2))
      | inr same ↦ least_rest.least other (omega arith) (subst (λ (n : ℕ). Follows graph usable (suc place) n other) same.0 follows.2) same.1
    ]

-- One entry more is written.
pub entries_more : (Q : ℕ → Type 0) (layer : List Bool) (i : ℕ) (b : Bool) → i < length layer
    → ((k : ℕ) → k < i → IsTrue (get_or layer k false) ↔ Q k) → IsTrue b ↔ Q i
    → (k : ℕ) → k < i + 1 → IsTrue (get_or (set layer i b) k false) ↔ Q k
entries_more Q layer i b inside below here = below_more (λ k. IsTrue (get_or (set layer i b) k false) ↔ Q k) i
    (λ k lt. let apart : k ≡ i → ⊥ = omega arith in subst (λ (v : Bool). IsTrue v ↔ Q k) (sym (get_or-set_other layer i k b false apart)) (below k lt))
    (subst (λ (v : Bool). IsTrue v ↔ Q i) (sym (get_or-set_same layer i b false inside)) here)

-- A test of two facts, of which the second is looked at only where the first holds: where it holds, and where it doesn't.
pub both_then : (b x y : Bool) (P Q : Type 0) → b ≡ y → x ≡ true → IsTrue x ↔ P → IsTrue y ↔ Q → IsTrue b ↔ (P × Q)
both_then b x y P Q is holds first second = (λ t. (first.0 holds, second.0 (cc)), λ pq. let t = second.1 pq.1 in cc)

pub both_else : (b x : Bool) (P Q : Type 0) → b ≡ x → x ≡ false → IsTrue x ↔ P → IsTrue b ↔ (P × Q)
both_else b x P Q is fails first = (λ t. absurd (cc), λ pq. let t = first.1 pq.0 in absurd (cc))

-- The entry of a last place.
pub last_entry : (graph : GraphState) (usable : List Bool) (place node : ℕ) (b : Bool) → IsTrue b ↔ (Stands graph usable place node × IsTrue (ends_at graph node))
    → IsTrue b ↔ Reaches graph usable 0 place node
last_entry graph usable place node b both =
    let none = Reaches-zero graph usable place node in
    (λ t. none.1 (both.0 t), λ reached. both.1 (none.0 reached))

-- Whether there is a next node.
pub some_leads : (graph : GraphState) (layer : List Bool) (node : ℕ) (next : Option ℕ)
    → MatchOption next ((k : ℕ) → k < graph.size → ¬ IsNext graph layer node k) (IsLeastNext graph layer node) → IsTrue (is_some next) ↔ LeadsInto graph layer node
some_leads graph layer node None none = (λ t. absurd (cc), λ into. absurd (none into.0 into.1 into.2))
some_leads graph layer node (Some next) least = (λ t. (next, least.inside, least.here), λ into. refl)

-- Equal tests say the same.
pub iff_same : (x y : Bool) → x ≡ y → IsTrue x ↔ IsTrue y
iff_same x y same = (λ t. cc, λ t. cc)

-- The same of a test whether there is one.
pub some_test : (graph : GraphState) (layer : List Bool) (node : ℕ) (next : Option ℕ) (b : Bool) → b ≡ is_some next
    → MatchOption next ((k : ℕ) → k < graph.size → ¬ IsNext graph layer node k) (IsLeastNext graph layer node) → IsTrue b ↔ LeadsInto graph layer node
some_test graph layer node next b is match = subst (λ (v : Bool). IsTrue v ↔ LeadsInto graph layer node) (sym is) (some_leads graph layer node next match)

-- One step back in the loop over the places.
pub layer_step : (graph : GraphState) (usable : List Bool) (place further back : ℕ) (after layer : List Bool) → back < further
    → IsLayer graph usable back (place + (further - back)) after → IsLayerBefore graph usable (place + (further - 1 - back)) after layer
    → IsLayer graph usable (back + 1) (place + (further - (back + 1))) layer
layer_step graph usable place further back after layer below is_layer before =
    let here : place + (further - back) ≡ suc (place + (further - 1 - back)) = omega arith in
    let there : place + (further - 1 - back) ≡ place + (further - (back + 1)) = omega arith in
    let more : suc back ≡ back + 1 = omega arith in
    subst₂ (λ (n p : ℕ). IsLayer graph usable n p layer) more there
    (IsLayer-before graph usable back (place + (further - 1 - back)) after layer (subst (λ (p : ℕ). IsLayer graph usable back p after) here is_layer) before)
