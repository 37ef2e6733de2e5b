-- What contracts see of a pass.
use Rattle.std.specs.Prelude.{◌≡◌, ℕ, ◌<◌, Bool, false, true, List, [], ◌∷◌, ◌++◌, length}
use mathlib.Core.List.{IsPrefix}
use Rattle.atomic_table.specs.Seated.{TableId}
use Rattle.dv_passes.specs.declared.view.Event.{Event}
use Rattle.dv_passes.specs.declared.view.View.{View}
use Rattle.dv_passes.specs.History.{StandIn, all_shares}

-- a beginning of the history, the pass's own additions with their places, and its shares
pub record Known : Type 0 where
  pub seen : List Event
  pub mine : List (ℕ × Event)
  pub share : ℕ

abbrev pub known : List Event → List (ℕ × Event) → ℕ → Known
known seen mine share = record { seen = seen; mine = mine; share = share }

abbrev pub known_of : View → Known
known_of v = known v.seen v.mine v.share

-- a view between two steps of its seat
pub record Rests (start : List Event) (has_turn : Bool) (v : View) : Type 0 where
  pub told : v.told ≡ []
  pub turn : v.turn ≡ has_turn
  pub share : 0 < v.share
  pub begins : IsPrefix start v.seen
  pub stand : StandIn v.seen (length start) v.mine

-- which history it is, and what it was made for
pub record Name (K : Type 0) : Type 0 where
  pub table : TableId
  pub about : K
