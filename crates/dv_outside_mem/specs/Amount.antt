-- How a station in memory counts what its calls use.
use Rattle.std.specs.Prelude.{◌≡◌, ◌⊎◌, ◌+◌, ◌<◌, ℕ, List, [], ◌∷◌, Option, Some, None}
use Rattle.dv_outside.specs.Station.{Amount, Within}

-- One of the numbers is past the room.
abbrev pub Past : Amount → Amount → Type 0
Past room used = (room.calls < used.calls) ⊎ (room.octets < used.octets)

-- A call that is handed n octets is counted exactly as long as the amount is within the room. Past it nothing is counted.
pub record CountsCall (room : Amount) (n : ℕ) (old new : Amount) : Type 0 where
  pub within : Within old room → new ≡ record { calls = old.calls + 1; octets = old.octets + n }
  pub past : Past room old → new ≡ old

-- A station in which no call is to fail is sure of its room.
abbrev pub sure_of : List ℕ → Amount → Option Amount
sure_of [] room = Some room
sure_of (number ∷ failing) room = None
