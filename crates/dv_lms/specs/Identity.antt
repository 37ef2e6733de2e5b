-- What contracts see of a key.
use Rattle.std.specs.Prelude.{ℕ, List}
use Rattle.dv_lms.specs.declared.height.Height.{Height}

-- the height of the key's tree, the tree's identifier I, and the seed of its private values
pub record Identity : Type 0 where
  pub height : Height
  pub id : List ℕ
  pub seed : List ℕ
