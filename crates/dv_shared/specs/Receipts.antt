-- What contracts see of a receipt.
use Rattle.std.specs.Prelude.{◌≡◌, ℕ, ◌+◌, List, [], ◌∷◌, ◌++◌, length}
use Rattle.dv_outside.specs.Releases.{Entry}
use Rattle.dv_register.specs.SigningKey.{SlotState}
use Rattle.dv_register.specs.State.{State, slot_at}
use Rattle.dv_passes.specs.declared.view.Event.{Event}
use Rattle.dv_shared.specs.Events.{entry, records}

-- The slot of its record, and how many records there were with it.
pub record ReceiptState : Type 0 where
  pub slot : SlotState
  pub front : ℕ

-- The receipt of the record of this number.
abbrev pub receipt_at : {V : Type 0} → State V → ℕ → ReceiptState
receipt_at origin index = record { slot = slot_at origin index; front = index + 1 }

-- The last record that was seen has this kind and these contents, and the receipt is its.
pub record IsReceipt {V : Type 0} (origin : State V) (kind : ℕ) (contents : List ℕ) (seen : List Event) (r : ReceiptState) : Type 0 where
  pub others : List Entry
  pub is : records seen ≡ others ++ entry kind contents ∷ []
  pub receipt : r ≡ receipt_at origin (length others)
