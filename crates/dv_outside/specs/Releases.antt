-- What decides which octets may be put.
use Rattle.std.specs.Prelude.{ℕ, List}

-- The identity of a register's key: the identifier and the height of its tree, and its seed.
pub record Identity : Type 0 where
  pub id : List ℕ
  pub height : ℕ
  pub seed : List ℕ

-- A record of a register.
pub record Entry : Type 0 where
  pub kind : ℕ
  pub contents : List ℕ
