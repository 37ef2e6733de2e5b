-- What contracts see of a station's meter.
use Rattle.std.specs.Prelude.{◌≡◌, ◌+◌, ℕ, List}
use Rattle.dv_outside.specs.Station.{Amount, Within}

-- The numbers of the calls that fail, what was used, and the room.
pub record MeterState : Type 0 where
  pub failing : List ℕ
  pub used : Amount
  pub room : Amount

-- A call that is handed n octets, and is within the room.
pub record IsServed (n : ℕ) (old new : MeterState) : Type 0 where
  pub within : Within new.used old.room
  pub calls : new.used.calls ≡ old.used.calls + 1
  pub octets : new.used.octets ≡ old.used.octets + n
