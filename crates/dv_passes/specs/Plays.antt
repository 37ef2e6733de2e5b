-- What each kind of step tells, and how views are cut and joined.
use Rattle.std.specs.Prelude.{◌≡◌, ℕ, suc, ◌+◌, ◌-◌, ◌≤◌, ◌<◌, ◌==◌, nat_le, nat_lt, if◌then◌else◌, List, [], ◌∷◌, ◌++◌, length, Some, slice_get, Bool, true, false}
use mathlib.Core.List.{IsPrefix}
use Rattle.dv_passes.specs.declared.view.Event.{Event}
use Rattle.dv_passes.specs.declared.view.View.{View}
use Rattle.dv_passes.specs.History.{StandIn, events_of, all_shares}

-- A load: the whole history was seen, which begins with what was seen and told before. With all shares it has nothing past the start but the seat's own additions
pub record Looked (start : List Event) (v : View) (found : ℕ) (w : View) : Type 0 where
  pub is : w ≡ record { seen = w.seen; told = []; mine = v.mine; share = v.share; turn = v.turn }
  pub seen : IsPrefix v.seen w.seen
  pub told : IsPrefix v.told w.seen
  pub count : length w.seen ≡ found
  pub stand : StandIn w.seen (length start) v.mine
  pub turn : v.turn ≡ true → w.seen ≡ v.seen
  pub alone : v.share ≡ all_shares → w.seen ≡ start ++ events_of v.mine

-- A load that changes nothing but that what was told is forgotten: of what was seen and told the shorter begins the longer
pub record Checked (start : List Event) (v w : View) : Type 0 where
  pub is : w ≡ record { seen = v.seen; told = []; mine = v.mine; share = v.share; turn = v.turn }
  pub told : length v.told ≤ length v.seen → IsPrefix v.told v.seen
  pub stand : StandIn v.seen (length start) v.mine

-- the event stands behind all, and it is the seat's
pub record Added (e : Event) (v : View) (found : ℕ) (w : View) : Type 0 where
  pub is : w ≡ record { seen = v.seen ++ e ∷ []; told = v.told; mine = v.mine ++ (length v.seen, e) ∷ []; share = v.share; turn = v.turn }
  pub count : found ≡ length v.seen

abbrev pub after_share : View → View
after_share v = record { seen = v.seen; told = v.told; mine = v.mine; share = v.share - 1; turn = v.turn }

abbrev pub shared : View → View
shared v = record { seen = v.seen; told = []; mine = []; share = 1; turn = false }

-- the turn alone
abbrev pub turn_at : List Event → View
turn_at log = record { seen = log; told = []; mine = []; share = 0; turn = true }

-- a pass, with all but the turn
abbrev pub passed : View → View
passed v = record { seen = v.seen; told = []; mine = v.mine; share = v.share; turn = false }

abbrev pub nobody : View
nobody = record { seen = []; told = []; mine = []; share = 0; turn = false }

abbrev pub longer : List Event → List Event → List Event
longer xs ys = if nat_lt (length xs) (length ys) then ys else xs

abbrev pub shorter : List Event → List Event → List Event
shorter xs ys = if nat_lt (length xs) (length ys) then xs else ys

-- puts an addition at its place
abbrev pub with_place : ℕ × Event → List (ℕ × Event) → List (ℕ × Event)
with_place m [] = m ∷ []
with_place m (x ∷ xs) = if nat_lt m.0 x.0 then m ∷ x ∷ xs else x ∷ with_place m xs

-- the additions of both, in the order of their places
abbrev pub merged : List (ℕ × Event) → List (ℕ × Event) → List (ℕ × Event)
merged xs [] = xs
merged xs (m ∷ ms) = with_place m (merged xs ms)

abbrev pub met : View → View → View
met v w = record { seen = longer v.seen w.seen; told = shorter v.seen w.seen; mine = merged v.mine w.mine; share = v.share + w.share; turn = v.turn }

-- the seat of the turn, with what a pass has
abbrev pub taken_in : View → View → View
taken_in v w = record { seen = v.seen; told = w.seen; mine = w.mine; share = w.share; turn = true }
