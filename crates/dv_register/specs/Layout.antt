-- The octets of a register.
use Rattle.std.specs.Prelude.{◌≡◌, ◌≢◌, ◌⊎◌, ◌<◌, ◌≤◌, ℕ, List, [], ◌∷◌, ◌++◌, length}
use Rattle.std.specs.Int.{to_be_bytes, w32, w64}
use Rattle.std.specs.List.{AllByRecursion}
use Rattle.dv_outside.specs.Releases.{Entry}

-- The octet of an open gate. Any other octet is a gate that isn't open; a gate that is surely closed is 00.
abbrev pub open_gate : ℕ
open_gate = 0xA5

-- The octets with which a register begins: DVREG001.
abbrev pub magic : List ℕ
magic = 0x44 ∷ 0x56 ∷ 0x52 ∷ 0x45 ∷ 0x47 ∷ 0x30 ∷ 0x30 ∷ 0x31 ∷ []

-- The head of a register, 76 octets: its magic, its public key, and the serial of its first record.
unfoldable pub head_of : List ℕ → ℕ → List ℕ
head_of key first = magic ++ key ++ to_be_bytes w64 first

-- A kind that is known: an own certificate, or a certificate of a service.
abbrev pub IsKnownKind : ℕ → Type 0
IsKnownKind kind = (kind ≡ 1) ⊎ (kind ≡ 2)

-- A record that may stand in a register: its kind is known, and its contents are within their limit.
pub record IsEntry (e : Entry) : Type 0 where
  pub kind : IsKnownKind e.kind
  pub short : length e.contents ≤ 1048576

-- What stands behind the gate of a record: its kind, its length and its contents.
abbrev pub body_of : Entry → List ℕ
body_of e = e.kind ∷ to_be_bytes w32 (length e.contents) ++ e.contents

-- Records, each behind its open gate.
abbrev pub records_of : List Entry → List ℕ
records_of [] = []
records_of (e ∷ list) = open_gate ∷ body_of e ++ records_of list

-- These octets are a head and these records, then a gate that isn't open, and anything.
pub record StandsWith (octets head : List ℕ) (limit : ℕ) (list : List Entry) (gate : ℕ) (rest : List ℕ) : Type 0 where
  pub is : octets ≡ head ++ records_of list ++ gate ∷ rest
  pub closed : gate ≢ open_gate
  pub entries : AllByRecursion IsEntry list
  pub fits : length list ≤ limit

-- The list stands in these octets.
abbrev pub Stands : List ℕ → List ℕ → ℕ → List Entry → Type 0
Stands octets head limit list = (gate : ℕ) × (rest : List ℕ) × StandsWith octets head limit list gate rest

-- Behind the last gate stand a whole record, for which there is room, and a closed gate.
pub record IsStaged (limit : ℕ) (list : List Entry) (rest : List ℕ) (e : Entry) (after : List ℕ) : Type 0 where
  pub room : length list < limit
  pub entry : IsEntry e
  pub is : rest ≡ body_of e ++ 0 ∷ after

-- The list stands, and the last gate is 00 or stands before a whole record.
abbrev pub Sound : List ℕ → List ℕ → ℕ → List Entry → Type 0
Sound octets head limit list = (gate : ℕ) × (rest : List ℕ) × StandsWith octets head limit list gate rest
    × ((gate ≡ 0) ⊎ ((e : Entry) × (after : List ℕ) × IsStaged limit list rest e after))

-- A list that begins with another one.
abbrev pub BeginsWith : List Entry → List Entry → Type 0
BeginsWith list front = (more : List Entry) × (list ≡ front ++ more)

-- These octets are sound for a list that begins with this one.
abbrev pub SoundFor : List ℕ → ℕ → List Entry → List ℕ → Type 0
SoundFor head limit list octets = (more : List Entry) × Sound octets head limit more × BeginsWith more list
