-- From a leaf upwards.
use Rattle.std.proofs.Common.{◌≡◌, ℕ, ◌+◌, ◌/◌, ◌^◌, List, refl, add-one}
use Rattle.dv_lms.specs.Verifies.{ancestor, parent_hash}

-- one level more
pub ancestor_next : (id : List ℕ) (siblings : ℕ → List ℕ) (r : ℕ) (x : List ℕ) (d : ℕ)
    → ancestor id siblings r x (d + 1) ≡ parent_hash id (r / 2 ^ d) (ancestor id siblings r x d) (siblings d)
unfolding ancestor
ancestor_next id siblings r x d = rw add-one refl
