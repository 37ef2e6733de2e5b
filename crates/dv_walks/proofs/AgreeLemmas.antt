-- Graphs that say the same of their nodes.
use Rattle.std.proofs.Common.{◌-◌, ◌+◌, ℕ, List, [], ◌∷◌, length, Bool, subst, sym, arith, IsTrue, get_or, IfSome, Option, ◌≤◌}
use Rattle.dv_walks.specs.Graph.{Agrees, GraphState}
use Rattle.dv_walks.specs.Walk.{IsLeastWalk, IsWalk}

-- The one agrees with the other where the other agrees with it.
pub Agrees-sym : (a b : GraphState) → Agrees a b → Agrees b a
Agrees-sym a b agrees =
    let same = agrees.size in
    record {
      size = sym agrees.size;
      leads = λ from to from_inside to_inside. sym (agrees.leads from to (omega arith) (omega arith));
      ends = λ node inside. sym (agrees.ends node (omega arith));
      limits = λ node inside. sym (agrees.limits node (omega arith));
    }

-- A walk through the one is one through the other.
pub IsWalk-agrees : (a b : GraphState) (start : ℕ) (walk : List ℕ) → Agrees a b → IsWalk a start walk → IsWalk b start walk
IsWalk-agrees a b start [] agrees walks = absurd (let none = walks.first in cc)
IsWalk-agrees a b start (first ∷ rest) agrees walks =
    let node : ℕ → ℕ = λ k. get_or (first ∷ rest) k 0 in
    record {
      short = walks.short;
      first = walks.first;
      nodes = λ k d below. let same = agrees.size in omega (arith, walks.nodes k d below);
      joined = λ i below. subst IsTrue (sym (agrees.leads (node i) (node (i + 1)) (walks.nodes i 0 (omega arith)) (walks.nodes (i + 1) 0 below))) (walks.joined i below);
      ended = subst IsTrue (sym (agrees.ends (node (length (first ∷ rest) - 1)) (walks.nodes (length (first ∷ rest) - 1) 0 (omega arith)))) walks.ended;
      limited = λ i below. subst (λ (o : Option ℕ). IfSome o (λ bound. i ≤ bound)) (sym (agrees.limits (node (i + 1)) (walks.nodes (i + 1) 0 below))) (walks.limited i below);
    }

-- So is the least.
pub IsLeastWalk-agrees : (a b : GraphState) (rows : List (List Bool)) (start : ℕ) (walk : List ℕ) → Agrees a b → IsLeastWalk a rows start walk → IsLeastWalk b rows start walk
IsLeastWalk-agrees a b rows start walk agrees least = record {
  walks = IsWalk-agrees a b start walk agrees least.walks;
  allowed = least.allowed;
  least = λ other walks allowed. least.least other (IsWalk-agrees b a start other (Agrees-sym a b agrees) walks) allowed;
}
