-- Chains that go on.
use Rattle.std.proofs.Common.{◌≡◌, ℕ, ◌+◌, ◌-◌, ◌<◌, ◌≤◌, List, [], length, set, slice_index, ap, ◌∙◌, arith, inl, inr}
use Rattle.std.specs.Prelude.{slice_index_or}
use Rattle.std.proofs.lemmas.List.{get_or-set_same, get_or-set_other}
use Rattle.std.proofs.lemmas.List.Edits.{fill_by_more}
use Rattle.std.proofs.lemmas.Bool.{cases_eq}
use Rattle.dv_lmots.specs.Lmots.{chain, chain_prefix, chain_steps}
use Rattle.dv_lmots.specs.Walk.{AreWithin, GoOn}
use Rattle.dv_lmots.proofs.ChainSteps.{chain_completed, chain_steps_none}

-- one value more, the k-th of those that f gives
pub written_more : (f : ℕ → List ℕ) (values : List (List ℕ)) (k : ℕ) (x : List ℕ) → k < length values → ((j : ℕ) → j < k → slice_index_or values j [] ≡ f j)
    → x ≡ f k → (j : ℕ) → j < k + 1 → slice_index_or (set values k x) j [] ≡ f j
written_more f values k x lt held e = rw e (fill_by_more f values k [] lt held)

-- n steps from a on are the chain up to a + n
pub chain_from_steps : (id : List ℕ) (q i : ℕ) (x : List ℕ) (a n : ℕ) → chain_steps (chain_prefix id q i) x a n ≡ chain id q i x a (a + n)
chain_from_steps id q i x a n =
    let count : n ≡ a + n - a = omega arith in
    ap (chain_steps (chain_prefix id q i) x a) count

-- chains that stay
pub GoOn_none : (id : List ℕ) (q : ℕ) (v : List (List ℕ)) (a : List ℕ) → GoOn id q v a v a
GoOn_none id q v a i lt = (omega arith, chain_steps_none (chain_prefix id q i) (slice_index_or v i []) (slice_index a i))

-- chains that go on twice
pub GoOn_then : (id : List ℕ) (q : ℕ) (v : List (List ℕ)) (a : List ℕ) (w : List (List ℕ)) (b : List ℕ) (u : List (List ℕ)) (c : List ℕ)
    → GoOn id q v a w b → GoOn id q w b u c → GoOn id q v a u c
GoOn_then id q v a w b u c first second i lt =
    let f = first i lt in
    let s = second i lt in
    let x : List ℕ = slice_index_or v i [] in (
      omega (arith, f.0, s.0),
      s.1 ∙ ap (λ (y : List ℕ). chain id q i y (slice_index b i) (slice_index c i)) f.1
          ∙ chain_completed id q i x (slice_index a i) (slice_index b i) (slice_index c i) f.0 s.0,
    )

-- one chain more, at place p, which comes to the value y before its step n
pub GoOn_stored : (id : List ℕ) (q : ℕ) (v : List (List ℕ)) (a : List ℕ) (w : List (List ℕ)) (b : List ℕ) (p n : ℕ) (y : List ℕ)
    → GoOn id q v a w b → p < length w → p < length b → slice_index a p ≤ n → y ≡ chain id q p (slice_index_or v p []) (slice_index a p) n
    → GoOn id q v a (set w p y) (set b p n)
GoOn_stored id q v a w b p n y held lw lb low e i lt = elim (cases_eq i p) [
  | inl same ↦ rw (same, get_or-set_same w p y [] lw, get_or-set_same b p n 0 lb) (low, e)
  | inr other ↦ rw (get_or-set_other w p i y [] other, get_or-set_other b p i n 0 other) (held i lt)
]

-- one chain more that is within its end
pub AreWithin_stored : (at to : List ℕ) (p n : ℕ) → AreWithin at to → p < length at → n ≤ slice_index to p → AreWithin (set at p n) to
AreWithin_stored at to p n held lt le i small = elim (cases_eq i p) [
  | inl same ↦ rw (same, get_or-set_same at p n 0 lt) le
  | inr other ↦ rw (get_or-set_other at p i n 0 other) (held i small)
]
