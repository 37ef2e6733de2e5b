-- What contracts see of chains that are walked.
use Rattle.std.specs.Prelude.{◌≡◌, ℕ, ◌<◌, ◌≤◌, List, [], slice_index, slice_index_or}
use Rattle.dv_lmots.specs.Lmots.{chain}

-- one chain in place: how its messages begin, and the value that it has come to
pub record Walk : Type 0 where
  pub prefix : List ℕ
  pub value : List ℕ

-- the 34 chains of the leaf q, with the values v before their steps a, come to the values w before
-- their steps b
abbrev pub GoOn : List ℕ → ℕ → List (List ℕ) → List ℕ → List (List ℕ) → List ℕ → Type 0
GoOn id q v a w b = (i : ℕ) → i < 34
    → (slice_index a i ≤ slice_index b i)
    × (slice_index_or w i [] ≡ chain id q i (slice_index_or v i []) (slice_index a i) (slice_index b i))

-- no chain is past its last step
abbrev pub AreWithin : List ℕ → List ℕ → Type 0
AreWithin at to = (i : ℕ) → i < 34 → slice_index at i ≤ slice_index to i

-- the four places are places of chains
abbrev pub ArePlaces : List ℕ → Type 0
ArePlaces places = (l : ℕ) → l < 4 → slice_index places l < 34
