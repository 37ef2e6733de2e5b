-- The walks through usable nodes are the lists that follow from the start.
use Rattle.std.proofs.Common.{◌≡◌, ◌<◌, ◌≤◌, ◌+◌, ◌-◌, inl, inr, ℕ, zero, suc, List, [], ◌∷◌, length, Bool, false, refl, ap, sym, subst, arith, IsTrue, get_or, All, Some, None, add-one, IfSome}
use Rattle.std.proofs.lemmas.Bool.{cases_lt}
use Rattle.std.proofs.lemmas.List.Elements.{All-cons, All-head, All-nil, All-tail}
use Rattle.dv_walks.specs.Graph.{GraphState, ends_at, leads, limit_of}
use Rattle.dv_walks.specs.Walk.{IsBefore, KeepsLimit}
use Rattle.dv_walks.specs.Search.{Follows, IsLayer, IsLeastOf, IsLeastRest, IsLeastRowWalk, IsRowWalk}
use Rattle.dv_walks.proofs.LayerLemmas.{Follows-stands}

-- The parts of a walk from a node at a place.
record Parts (graph : GraphState) (usable : List Bool) (place node : ℕ) (rest : List ℕ) : Type 0 where
  nodes : All (λ n. n < graph.size) (node ∷ rest)
  allowed : All (λ n. IsTrue (get_or usable n false)) (node ∷ rest)
  joined : (i : ℕ) → suc i < length (node ∷ rest) → IsTrue (leads graph (get_or (node ∷ rest) i 0) (get_or rest i 0))
  ended : IsTrue (ends_at graph (get_or (node ∷ rest) (length rest) 0))
  limited : (i : ℕ) → suc i < length (node ∷ rest) → KeepsLimit graph (get_or rest i 0) (place + i)

-- What follows a node has these parts.
parts_of : (graph : GraphState) (usable : List Bool) (place node : ℕ) (rest : List ℕ) → Follows graph usable place node rest → Parts graph usable place node rest
parts_of graph usable place node [] follows = record {
  nodes = All-cons (λ n. n < graph.size) node [] follows.0.inside (All-nil (λ n. n < graph.size));
  allowed = All-cons (λ n. IsTrue (get_or usable n false)) node [] follows.0.allowed (All-nil (λ n. IsTrue (get_or usable n false)));
  joined = λ i below. absurd (omega arith);
  ended = follows.1;
  limited = λ i below. absurd (omega arith);
}
parts_of graph usable place node (next ∷ rest) follows =
    let more = parts_of graph usable (suc place) next rest follows.2 in
    record {
      nodes = All-cons (λ n. n < graph.size) node (next ∷ rest) follows.0.inside more.nodes;
      allowed = All-cons (λ n. IsTrue (get_or usable n false)) node (next ∷ rest) follows.0.allowed more.allowed;
      joined = joined more;
      ended = more.ended;
      limited = limited more;
    }
  where
    joined : Parts graph usable (suc place) next rest → (i : ℕ) → suc i < length (node ∷ next ∷ rest) → IsTrue (leads graph (get_or (node ∷ next ∷ rest) i 0) (get_or (next ∷ rest) i 0))
    joined more zero below = follows.1
    joined more (suc i) below = more.joined i (omega arith)

    limited : Parts graph usable (suc place) next rest → (i : ℕ) → suc i < length (node ∷ next ∷ rest) → KeepsLimit graph (get_or (next ∷ rest) i 0) (place + i)
    limited more zero below =
        let here : suc place - 1 ≡ place + 0 = omega arith in
        subst (KeepsLimit graph next) here (Follows-stands graph usable (suc place) next rest follows.2).limited
    limited more (suc i) below =
        let here : suc place + i ≡ place + suc i = omega arith in
        subst (KeepsLimit graph (get_or rest i 0)) here (more.limited i (omega arith))

-- What has these parts follows the node, where the node keeps its limit.
follows_of : (graph : GraphState) (usable : List Bool) (place node : ℕ) (rest : List ℕ) → KeepsLimit graph node (place - 1) → Parts graph usable place node rest
    → Follows graph usable place node rest
follows_of graph usable place node [] limited parts = (
  record { inside = All-head (λ n. n < graph.size) node [] parts.nodes; allowed = All-head (λ n. IsTrue (get_or usable n false)) node [] parts.allowed; limited = limited },
  parts.ended,
)
follows_of graph usable place node (next ∷ rest) limited parts =
    let here : place + 0 ≡ suc place - 1 = omega arith in (
      record {
        inside = All-head (λ n. n < graph.size) node (next ∷ rest) parts.nodes;
        allowed = All-head (λ n. IsTrue (get_or usable n false)) node (next ∷ rest) parts.allowed;
        limited = limited;
      },
      parts.joined 0 (omega arith),
      follows_of graph usable (suc place) next rest (subst (KeepsLimit graph next) here (parts.limited 0 (omega arith)))
          (record {
            nodes = All-tail (λ n. n < graph.size) node (next ∷ rest) parts.nodes;
            allowed = All-tail (λ n. IsTrue (get_or usable n false)) node (next ∷ rest) parts.allowed;
            joined = λ i below. parts.joined (suc i) (omega arith);
            ended = parts.ended;
            limited = λ i below.
                let there : place + suc i ≡ suc place + i = omega arith in
                subst (KeepsLimit graph (get_or rest i 0)) there (parts.limited (suc i) (omega arith));
          }),
    )

-- A node at the start keeps any limit.
keeps_none : (graph : GraphState) (node : ℕ) → KeepsLimit graph node 0
keeps_none graph node = elim (limit_of graph node) as (λ o. IfSome o (λ bound. 0 ≤ bound)) [ None ↦ tt | Some bound ↦ omega arith ]

-- What follows the start is a walk through usable nodes.
pub IsRowWalk-of : (graph : GraphState) (usable : List Bool) (start : ℕ) (rest : List ℕ) → length rest < 6 → Follows graph usable 0 start rest → IsRowWalk graph usable start (start ∷ rest)
IsRowWalk-of graph usable start rest short follows =
    let parts = parts_of graph usable 0 start rest follows in
    let last : length rest ≡ length (start ∷ rest) - 1 = omega arith in (
      record {
        short = omega arith;
        first = refl;
        nodes = parts.nodes;
        joined = λ i below. subst (λ (k : ℕ). IsTrue (leads graph (get_or (start ∷ rest) i 0) (get_or (start ∷ rest) k 0))) (sym (add-one i)) (parts.joined i (omega arith));
        ended = subst (λ (k : ℕ). IsTrue (ends_at graph (get_or (start ∷ rest) k 0))) last parts.ended;
        limited = λ i below. subst (λ (k : ℕ). KeepsLimit graph (get_or (start ∷ rest) k 0) i) (sym (add-one i))
            (let none : 0 + i ≡ i = omega arith in subst (KeepsLimit graph (get_or rest i 0)) none (parts.limited i (omega arith)));
      },
      parts.allowed,
    )

-- A walk through usable nodes is the start and what follows it.
pub rest_of : (graph : GraphState) (usable : List Bool) (start : ℕ) (walk : List ℕ) → IsRowWalk graph usable start walk
    → (rest : List ℕ) × (walk ≡ start ∷ rest) × (length rest < 6) × Follows graph usable 0 start rest
rest_of graph usable start [] walks = absurd (let none = walks.0.first in cc)
rest_of graph usable start (node ∷ rest) walks =
    let same : node ≡ start = let first = walks.0.first in cc in
    let last : length (node ∷ rest) - 1 ≡ length rest = omega arith in
    let short = walks.0.short in
    let follows : Follows graph usable 0 node rest =
    follows_of graph usable 0 node rest (let none : 0 ≡ 0 - 1 = omega arith in subst (KeepsLimit graph node) none (keeps_none graph node))
    (record {
      nodes = walks.0.nodes;
      allowed = walks.1;
      joined = λ i below. subst (λ (k : ℕ). IsTrue (leads graph (get_or (node ∷ rest) i 0) (get_or (node ∷ rest) k 0))) (add-one i) (walks.0.joined i (omega arith));
      ended = subst (λ (k : ℕ). IsTrue (ends_at graph (get_or (node ∷ rest) k 0))) last walks.0.ended;
      limited = λ i below. subst (λ (k : ℕ). KeepsLimit graph (get_or rest i 0) k) (let none : i ≡ 0 + i = omega arith in none)
          (subst (λ (k : ℕ). KeepsLimit graph (get_or (node ∷ rest) k 0) i) (add-one i) (walks.0.limited i (omega arith)));
    })
    in
    (rest, ap (λ (n : ℕ). n ∷ rest) same, omega arith, subst (λ (n : ℕ). Follows graph usable 0 n rest) same follows)

-- Where nothing shorter follows the start, the lowest list of one length is the least walk.
pub IsLeastRowWalk-of : (graph : GraphState) (usable : List Bool) (further start : ℕ) (walk : List ℕ) → further < 6
    → ((rest : List ℕ) → length rest < further → ¬ Follows graph usable 0 start rest) → IsLeastOf graph usable further start walk → IsLeastRowWalk graph usable start walk
IsLeastRowWalk-of graph usable further start walk short none least =
    subst (IsLeastRowWalk graph usable start) (sym least.1) (record { walks = IsRowWalk-of graph usable start rest (omega (arith, is.long)) is.follows; least = apart })
  where
    rest : List ℕ
    rest = least.0

    is : IsLeastRest graph usable further 0 start rest
    is = least.2

    apart : (other : List ℕ) → IsRowWalk graph usable start other → ¬ IsBefore other (start ∷ rest)
    apart other walks before =
        let its = rest_of graph usable start other walks in
        elim (subst (λ (w : List ℕ). IsBefore w (start ∷ rest)) its.1 before) [
          | inl shorter ↦ none its.0 (omega (arith, is.long)) its.3
          | inr lower ↦ elim lower.1 [
            | inl below ↦ omega arith
            | inr same ↦ is.least its.0 (omega (arith, is.long, lower.0)) its.3 same.1
          ]
        ]

-- Where nothing follows the start at all, there is no walk.
pub no_walk : (graph : GraphState) (usable : List Bool) (start : ℕ) → ((rest : List ℕ) → length rest < 6 → ¬ Follows graph usable 0 start rest)
    → (walk : List ℕ) → ¬ IsRowWalk graph usable start walk
no_walk graph usable start none walk walks = let its = rest_of graph usable start walk walks in none its.0 its.2 its.3

-- One length more.
pub none_more : (graph : GraphState) (usable : List Bool) (start further : ℕ) (layer : List Bool) → start < graph.size → IsLayer graph usable further 0 layer → get_or layer start false ≡ false
    → ((rest : List ℕ) → length rest < further → ¬ Follows graph usable 0 start rest) → (rest : List ℕ) → length rest < further + 1 → ¬ Follows graph usable 0 start rest
none_more graph usable start further layer inside is_layer entry none rest short follows = elim (cases_lt (length rest) further) [
  | inl below ↦ none rest below follows
  | inr above ↦ let t = (is_layer start inside).1 (rest, omega arith, follows) in cc
]
