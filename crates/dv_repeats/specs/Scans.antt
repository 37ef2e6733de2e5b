-- What is known of a list when the keys of some of its members were looked for among those behind them.
use Rattle.std.specs.Prelude.{◌≡◌, ◌≢◌, ◌≤◌, ◌<◌, ◌+◌, ◌-◌, ℕ, ⊤, true, false, List, [], length, drop, slice_index_or, Option, None, Some}
use Rattle.dv_schema.specs.Octets.{same_octets}
use Rattle.dv_schema.specs.Reading.{Spot}
use Rattle.dv_repeats.specs.Lists.{AreKeys, Turn}

-- a number is below another, where there is one
abbrev pub IsBefore : ℕ → Option ℕ → Type 0
IsBefore n None = ⊤
IsBefore n (Some first) = n < first

-- the key of the member with this number
abbrev pub key_at : List (List ℕ) → ℕ → List ℕ
key_at ks i = slice_index_or ks i []

-- the member with this number repeats the key of one before it
abbrev pub RepeatsAt : List (List ℕ) → ℕ → Type 0
RepeatsAt ks n = (i : ℕ) × (i < n) × (same_octets (key_at ks n) (key_at ks i) ≡ true)

-- none of the first members has its key again behind it, before the member with a number
abbrev pub AreNew : ℕ → List (List ℕ) → ℕ → Option ℕ → Type 0
AreNew count ks number first = (i j : ℕ) → i < count → i < j → j < length ks → IsBefore (number + j) first → same_octets (key_at ks j) (key_at ks i) ≡ false

-- What a scan says of the members from a spot on, the first of which has this number, where the first that repeats a key was known before, and is
-- known now: so many were looked for, up to the next spot.
pub record IsScan (turn : Turn) (from : Spot) (number : ℕ) (known first : Option ℕ) (count : ℕ) (next : Spot) (ks : List (List ℕ)) (q : Spot) : Type 0 where
  pub new : AreNew count ks number first
  pub repeats : (n : ℕ) → first ≡ Some n → known ≢ Some n → (n - number < length ks → RepeatsAt ks (n - number)) × (length q.rest ≡ 0 → n - number < length ks)
  pub goes_on : count ≤ length ks → AreKeys turn (drop count ks) next q
  pub within : length q.rest ≡ 0 → count ≤ length ks
  pub all : count < 1024 → (j : ℕ) → count ≤ j → j < length ks → IsBefore (number + j) first → ⊥
