-- The history, and what each view has of it.
use Rattle.std.specs.Prelude.{◌≡◌, ℕ, suc, ◌+◌, ◌≤◌, ◌==◌, nat_le, nat_lt, if◌then◌else◌, List, [], ◌∷◌, ◌++◌, length, Some, slice_get, Bool, true, false}
use mathlib.Core.Option.{some}
use mathlib.Core.List.{IsPrefix}
use lib.ListN.{get_elem?}
use Rattle.atomic_table.specs.Table.{State}
use Rattle.atomic_table.specs.Seated.{TableId}
use Rattle.dv_passes.specs.declared.view.Event.{Event}
use Rattle.dv_passes.specs.declared.view.View.{View}

-- the name of no table
abbrev pub no_table : TableId
no_table = record { words = 0; slots = 0; views_name = 0; atom = 0; block = 0; offset = 0; slot_names = [] }

-- the events without their places
abbrev pub events_of : List (ℕ × Event) → List Event
events_of [] = []
events_of (m ∷ ms) = m.1 ∷ events_of ms

-- these events stand in the history at these places, which ascend from n on
abbrev pub StandIn : List Event → ℕ → List (ℕ × Event) → Type 0
StandIn log n [] = Unit {0}
StandIn log n (m ∷ ms) = (n ≤ m.0) × (slice_get log m.0 ≡ Some m.1) × StandIn log (suc m.0) ms

-- how often the place is among these
abbrev pub times : ℕ → List (ℕ × Event) → ℕ
times p [] = 0
times p (m ∷ ms) = (if m.0 == p then 1 else 0) + times p ms

-- 1 for a place past the first ones and within the history, and 0 for another
abbrev pub once : ℕ → ℕ → ℕ → ℕ
once from to p = if nat_le from p then (if nat_lt p to then 1 else 0) else 0

-- all passes' shares together
abbrev pub all_shares : ℕ
all_shares = 4294967296

abbrev pub total : (View → ℕ) → List View → ℕ
total f [] = 0
total f (v ∷ vs) = f v + total f vs

abbrev pub turn_count : View → ℕ
turn_count v = if v.turn then 1 else 0

-- what the rule says of one view
pub record Fits (start log : List Event) (v : View) : Type 0 where
  pub seen : IsPrefix v.seen log
  pub told : IsPrefix v.told log
  pub mine : StandIn v.seen (length start) v.mine
  pub idle : v.share ≡ 0 → v.mine ≡ []
  pub turn : v.turn ≡ true → v.seen ≡ log

-- word 0 is the length of the history. Each place past the entries at the start stands in the additions of exactly one view, and exactly one view has the turn
pub record Kept (start log : List Event) (words : List ℕ) (views : List View) : Type 0 where
  pub word : words ≡ length log ∷ []
  pub begins : IsPrefix start log
  pub each : (by : ℕ) (v : View) → get_elem? views by ≡ some v → Fits start log v
  pub places : (p : ℕ) → total (λ v. times p v.mine) views ≡ once (length start) (length log) p
  pub shares : total (λ v. v.share) views ≡ all_shares
  pub turns : total turn_count views ≡ 1

abbrev pub Keeps : List Event → State (Unit {0}) View → Type 0
Keeps start s = (log : List Event) × Kept start log s.words s.views

-- the view of the first seat
abbrev pub first_view : List Event → View
first_view start = record { seen = start; told = []; mine = []; share = all_shares; turn = true }
