-- How a walk is gone through, node by node.
use Rattle.std.proofs.Common.{◌≡◌, ◌<◌, ◌≤◌, ◌+◌, ◌-◌, ℕ, suc, List, [], ◌∷◌, ◌++◌, Bool, true, refl, sym, subst, subst₂, arith, Option, is_some, MatchOption, append_assoc, append-nil}
use Rattle.std.proofs.lemmas.Bool.{some_since}
use Rattle.dv_walks.specs.Graph.{GraphState}
use Rattle.dv_walks.specs.Search.{IsLayer, IsLeastNext, IsLeastOf, IsLeastRest, IsNext, LeadsInto, Reaches, Stands}
use Rattle.dv_walks.proofs.LayerLemmas.{IsLeastRest-cons, IsLeastRest-nil, Reaches-suc}

-- What is known when the node at a place was found.
pub record GoesBy (graph : GraphState) (usable : List Bool) (further start place node : ℕ) (walk : List ℕ) : Type 0 where
  pub reaches : Reaches graph usable (further - place) place node
  pub least : (rest : List ℕ) → IsLeastRest graph usable (further - place) place node rest → IsLeastOf graph usable further start (walk ++ rest)

-- The node at the start.
pub GoesBy-start : (graph : GraphState) (usable : List Bool) (further start : ℕ) → Reaches graph usable further 0 start → GoesBy graph usable further start 0 start (start ∷ [])
GoesBy-start graph usable further start reached =
    let all : further - 0 ≡ further = omega arith in
    record {
      reaches = subst (λ (n : ℕ). Reaches graph usable n 0 start) (sym all) reached;
      least = λ rest is_least. (rest, refl, subst (λ (n : ℕ). IsLeastRest graph usable n 0 start rest) all is_least);
    }

-- There is a next node.
pub leads_on : (graph : GraphState) (usable : List Bool) (further place node : ℕ) (onward : List Bool) → place < further
    → Reaches graph usable (further - place) place node → IsLayer graph usable (further - 1 - place) (place + 1) onward
    → Stands graph usable place node × LeadsInto graph onward node
leads_on graph usable further place node onward below reached is_layer =
    let more : further - place ≡ suc (further - 1 - place) = omega arith in
    let up : place + 1 ≡ suc place = omega arith in
    (Reaches-suc graph usable (further - 1 - place) place node onward (subst (λ (p : ℕ). IsLayer graph usable (further - 1 - place) p onward) up is_layer)).0
    (subst (λ (n : ℕ). Reaches graph usable n place node) more reached)

-- So the search for it finds one.
pub finds_next : (graph : GraphState) (onward : List Bool) (node : ℕ) (next : Option ℕ)
    → MatchOption next ((k : ℕ) → k < graph.size → ¬ IsNext graph onward node k) (IsLeastNext graph onward node) → LeadsInto graph onward node → is_some next ≡ true
finds_next graph onward node next match into =
    some_since next ((k : ℕ) → k < graph.size → ¬ IsNext graph onward node k) (IsLeastNext graph onward node) match (λ none. none into.0 into.1 into.2)

-- One node more.
pub GoesBy-step : (graph : GraphState) (usable : List Bool) (further start place node next : ℕ) (walk : List ℕ) (onward : List Bool) → place < further
    → GoesBy graph usable further start place node walk → IsLayer graph usable (further - 1 - place) (place + 1) onward → IsLeastNext graph onward node next
    → GoesBy graph usable further start (place + 1) next (walk ++ next ∷ [])
GoesBy-step graph usable further start place node next walk onward below goes is_layer is_next =
    let more : further - place ≡ suc (further - 1 - place) = omega arith in
    let same : further - (place + 1) ≡ further - 1 - place = omega arith in
    let up : place + 1 ≡ suc place = omega arith in
    let stands = (leads_on graph usable further place node onward below goes.reaches is_layer).0 in
    record {
      reaches = subst (λ (n : ℕ). Reaches graph usable n (place + 1) next) (sym same) ((is_layer next is_next.inside).0 is_next.here.1);
      least = λ rest is_least.
          subst (IsLeastOf graph usable further start) (sym (append_assoc walk (next ∷ []) rest))
          (goes.least (next ∷ rest) (subst (λ (n : ℕ). IsLeastRest graph usable n place node (next ∷ rest)) (sym more)
          (IsLeastRest-cons graph usable (further - 1 - place) place node next onward rest (subst (λ (p : ℕ). IsLayer graph usable (further - 1 - place) p onward) up is_layer) stands is_next
          (subst₂ (λ (n p : ℕ). IsLeastRest graph usable n p next rest) same up is_least))));
    }

-- The node at the last place.
pub GoesBy-end : (graph : GraphState) (usable : List Bool) (further start place node : ℕ) (walk : List ℕ) → further ≤ place → GoesBy graph usable further start place node walk
    → IsLeastOf graph usable further start walk
GoesBy-end graph usable further start place node walk past goes =
    let none : further - place ≡ 0 = omega arith in
    subst (IsLeastOf graph usable further start) (append-nil walk)
    (goes.least [] (subst (λ (n : ℕ). IsLeastRest graph usable n place node []) (sym none)
    (IsLeastRest-nil graph usable place node (subst (λ (n : ℕ). Reaches graph usable n place node) none goes.reaches))))
