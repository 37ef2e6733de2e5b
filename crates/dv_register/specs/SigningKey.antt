-- What contracts see of leaves and slots.
use Rattle.std.specs.Prelude.{ℕ}
use Rattle.dv_lms.specs.Identity.{Identity}

-- A leaf: its number, and the key of the register that gave it.
pub record LeafState : Type 0 where
  pub number : ℕ
  pub key : Identity

-- A slot: the serial of a record, and its leaf.
pub record SlotState : Type 0 where
  pub serial : ℕ
  pub leaf : LeafState
