-- What is sent over a run of calls, between which the file may be read and written.
use Rattle.std.specs.Prelude.{◌≡◌, ◌≤◌, ℕ, List, ◌++◌, length, take}
use Rattle.dv_outside.specs.Station.{Content, Keeps, Meanwhile}

-- At each moment a front of these octets is sent.
abbrev pub SendsFrontOf : List ℕ → Content → Content → Type 0
SendsFrontOf octets old new = Meanwhile old new (λ m. (k : ℕ) × (k ≤ length octets) × (new.sent m ≡ old.sent old.moment ++ take k octets))

-- These octets were sent, and at each moment a front of them.
pub record Sends (octets : List ℕ) (old new : Content) : Type 0 where
  pub keeps : Keeps old new
  pub sending : SendsFrontOf octets old new
  pub sent : new.sent new.moment ≡ old.sent old.moment ++ octets

-- These octets were sent, and behind them a front of a piece whose put failed; and at each moment a front of both.
pub record SendsCut (octets piece : List ℕ) (old new : Content) : Type 0 where
  pub keeps : Keeps old new
  pub sending : SendsFrontOf (octets ++ piece) old new
  pub count : ℕ
  pub within : count ≤ length piece
  pub sent : new.sent new.moment ≡ old.sent old.moment ++ octets ++ take count piece
