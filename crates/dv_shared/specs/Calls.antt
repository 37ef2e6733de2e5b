-- What a call on a shared register does.
use Rattle.std.specs.Prelude.{◌≡◌, ℕ, ◌+◌, ◌^◌, ◌<◌, ◌≤◌, Bool, true, false, IsTrue, Result, Ok, Err, List, [], ◌∷◌, ◌++◌, length, take}
use mathlib.Core.List.{IsPrefix}
use Rattle.dv_outside.specs.Station.{Content, Counts}
use Rattle.dv_register.specs.State.{State, limit_in}
use Rattle.dv_passes.specs.declared.view.Event.{Event}
use Rattle.dv_passes.specs.declared.view.Event.TheVariants.{Reserved, Put, Stopped}
use Rattle.dv_passes.specs.History.{events_of, all_shares}
use Rattle.dv_passes.specs.Known.{Known}
use Rattle.dv_shared.specs.declared.receipt.SharedReserve.{SharedReserve}
use Rattle.dv_shared.specs.declared.receipt.SharedReserve.TheVariants.{Full, Shut, Fault, Memory}
use Rattle.dv_shared.specs.declared.receipt.SharedEmit.{SharedEmit}
use Rattle.dv_shared.specs.declared.receipt.SharedEmit.TheVariants.{Failed, Spent}
use Rattle.dv_shared.specs.Events.{records, stop_count, first_events, placed}
use Rattle.dv_shared.specs.Receipts.{ReceiptState, receipt_at}
use Rattle.dv_shared.specs.Stands.{StandsFor}

-- At a call the history was `before`, which begins with all that the pass had seen. The call added these events behind it; the
-- pass has then seen all, and has them among its additions at their places. With all shares there was nothing but the start and
-- the pass's own additions.
pub record Adds (start : List Event) (old : Known) (before added : List Event) (new : Known) : Type 0 where
  pub begins : IsPrefix old.seen before
  pub seen : new.seen ≡ before ++ added
  pub mine : new.mine ≡ old.mine ++ placed (length before) added
  pub share : new.share ≡ old.share
  pub alone : old.share ≡ all_shares → before ≡ start ++ events_of old.mine

-- When each answer of a reservation comes, and what it adds: the register was shut where the history has a stop, and full where
-- it has a record for each leaf. Want of memory may come at any time, and adds nothing.
abbrev pub ReserveAnswer : {V : Type 0} → State V → ℕ → List ℕ → List Event → List Event → Result ReceiptState SharedReserve → Type 0
ReserveAnswer origin kind contents before added (Ok r) =
    (added ≡ Reserved kind contents ∷ []) × (stop_count before ≡ 0) × (length (records before) < limit_in origin) × (r ≡ receipt_at origin (length (records before)))
ReserveAnswer origin kind contents before added (Err Full) = (added ≡ []) × (stop_count before ≡ 0) × (length (records before) ≡ limit_in origin)
ReserveAnswer origin kind contents before added (Err Shut) = (added ≡ []) × (0 < stop_count before)
ReserveAnswer origin kind contents before added (Err Fault) = (added ≡ Stopped ∷ []) × (stop_count before ≡ 0) × (length (records before) < limit_in origin)
ReserveAnswer origin kind contents before added (Err Memory) = added ≡ []

abbrev pub Reserves : {V : Type 0} → List Event → State V → ℕ → List ℕ → Known → Known → Result ReceiptState SharedReserve → Type 0
Reserves start origin kind contents old new answer =
    (before : List Event) × (added : List Event) × Adds start old before added new × ReserveAnswer origin kind contents before added answer

-- When each answer of a put comes, and what it adds: all octets, or where it failed those that went out, a front of them where
-- that is told.
abbrev pub EmitAnswer : Type 0 → List ℕ → List Event → List Event → Result (Unit {0}) SharedEmit → Type 0
EmitAnswer told octets before added (Ok _) = (added ≡ Put octets true ∷ []) × (length before < 2 ^ 62)
EmitAnswer told octets before added (Err Failed) =
    (out : List ℕ) × (added ≡ Put out false ∷ []) × (told → (k : ℕ) × (k ≤ length octets) × (out ≡ take k octets)) × (length before < 2 ^ 62)
EmitAnswer told octets before added (Err Spent) = (added ≡ []) × (2 ^ 62 ≤ length before)

abbrev pub Emits : List Event → Type 0 → List ℕ → Known → Known → Result (Unit {0}) SharedEmit → Type 0
Emits start told octets old new answer = (before : List Event) × (added : List Event) × Adds start old before added new × EmitAnswer told octets before added answer

-- The register comes back, and stands for the whole history.
pub record Closes {V : Type 0} (tells : V → Bool) (content : V → Content) (counts : V → Counts) (origin : State V) (pass : Known) (r : State V) : Type 0 where
  pub log : List Event
  pub begins : IsPrefix pass.seen log
  pub stands : StandsFor tells content counts origin log r
  pub alone : pass.share ≡ all_shares → log ≡ first_events origin.list origin.shut ++ events_of pass.mine
