-- Which octets are no register, and at which place.
use Rattle.std.specs.Prelude.{◌≡◌, ◌≢◌, ◌⊎◌, ◌+◌, ◌^◌, ◌<◌, ◌≤◌, ℕ, List, ◌∷◌, ◌++◌, length, take, drop}
use Rattle.std.specs.Int.{from_be_bytes, w32, w64}
use Rattle.std.specs.List.{AllByRecursion}
use Rattle.dv_outside.specs.Releases.{Entry}
use Rattle.dv_register.specs.Layout.{open_gate, magic, head_of, IsKnownKind, IsEntry, body_of, records_of}

-- The octets behind an open gate are no record with a gate behind it, by the octet at this offset from the gate: the kind is
-- unknown; the length is past its limit; or they end, before the length is whole or before the next gate.
pub data IsNoRecord (octets : List ℕ) (offset : ℕ) : Type 0 where
  unknown_kind : (kind : ℕ) (rest : List ℕ) → octets ≡ kind ∷ rest → ¬ IsKnownKind kind → offset ≡ 1 → IsNoRecord octets offset
  too_long : (kind : ℕ) (len rest : List ℕ) → octets ≡ kind ∷ len ++ rest → IsKnownKind kind → length len ≡ 4
      → 1048576 < from_be_bytes w32 len → offset ≡ 2 → IsNoRecord octets offset
  no_length : length octets < 5 → ((kind : ℕ) (rest : List ℕ) → octets ≡ kind ∷ rest → IsKnownKind kind) → offset ≡ 0 → IsNoRecord octets offset
  no_gate : (kind : ℕ) (len rest : List ℕ) → octets ≡ kind ∷ len ++ rest → IsKnownKind kind → length len ≡ 4
      → from_be_bytes w32 len ≤ 1048576 → length rest ≤ from_be_bytes w32 len → offset ≡ 0 → IsNoRecord octets offset

-- Behind the head and some records there is an open gate, and what follows it is no record, or one too many.
pub record BreaksOff (octets head : List ℕ) (limit place : ℕ) : Type 0 where
  pub list : List Entry
  pub entries : AllByRecursion IsEntry list
  pub fits : length list ≤ limit
  pub behind : List ℕ
  pub is : octets ≡ head ++ records_of list ++ open_gate ∷ behind
  pub cause : ((offset : ℕ) × IsNoRecord behind offset × (place ≡ length (head ++ records_of list) + offset))
      ⊎ ((length list ≡ limit) × (e : Entry) × (rest : List ℕ) × IsEntry e × (behind ≡ body_of e ++ rest) × (0 < length rest)
      × (place ≡ length (head ++ records_of list)))

-- The serial of a first record is in its range.
pub record IsFirstSerial (first : ℕ) : Type 0 where
  pub positive : 1 ≤ first
  pub small : first ≤ 2 ^ 62

-- The octets begin with a magic, and there are enough of them for a head and a gate.
pub record HasMagic (octets : List ℕ) : Type 0 where
  pub long : 77 ≤ length octets
  pub magic : take 8 octets ≡ magic

-- They are no register of this key, by the octet at this place: they are too few, or begin otherwise; the first serial is out
-- of its range; or a record breaks off.
pub data IsNoRegister (octets key : List ℕ) (limit place : ℕ) : Type 0 where
  no_magic : ¬ HasMagic octets → place ≡ 0 → IsNoRegister octets key limit place
  no_serial : HasMagic octets → take 60 (drop 8 octets) ≡ key → ¬ IsFirstSerial (from_be_bytes w64 (take 8 (drop 68 octets))) → place ≡ 68
      → IsNoRegister octets key limit place
  no_record : (first : ℕ) → IsFirstSerial first → BreaksOff octets (head_of key first) limit place → IsNoRegister octets key limit place

-- They are a register of another key.
pub record IsOtherKey (octets key : List ℕ) : Type 0 where
  pub magic : HasMagic octets
  pub differs : take 60 (drop 8 octets) ≢ key
