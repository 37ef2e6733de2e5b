-- What the steps of an opening make of a file.
use Rattle.std.specs.Prelude.{◌≡◌, ◌+◌, ◌<◌, ◌≤◌, ℕ, List, ◌∷◌, ◌++◌, length, take, drop}
use Rattle.std.specs.Int.{to_be_bytes, w32}
use Rattle.std.specs.List.{AllByRecursion}
use Rattle.dv_outside.specs.Causes.{Rose}
use Rattle.dv_outside.specs.Station.{Content, Leaves}
use Rattle.dv_outside.specs.Releases.{Entry}
use Rattle.dv_register.specs.Layout.{IsKnownKind, IsEntry, Stands, SoundFor, head_of, records_of}
use Rattle.dv_register.specs.Refusals.{IsFirstSerial, IsNoRecord}
use Rattle.dv_register.specs.Safe.{IsSettled}
use Rattle.dv_register.specs.State.{IsInMemory, entries_of}
use Rattle.dv_register.specs.declared.place.Place.{Place}
use Rattle.dv_register.specs.declared.refusals.Open.{Open}
use Rattle.dv_register.specs.declared.refusals.Open.TheVariants.{NotRegister, OtherKey, Fault, Memory}

-- A file goes on with this octet at a place.
abbrev pub HasAt : List ℕ → ℕ → ℕ → Type 0
HasAt file place octet = drop place file ≡ octet ∷ drop (place + 1) file

-- A record that may stand in a register, behind whose contents there is a gate in a file of this size.
pub record IsWhole (kind len behind : ℕ) : Type 0 where
  pub known : IsKnownKind kind
  pub short : len ≤ 1048576
  pub room : 5 + len < behind

-- Octets that begin with the kind and the length of such a record.
abbrev pub BeginsRecord : List ℕ → ℕ → ℕ → Type 0
BeginsRecord octets kind len = take 5 octets ≡ kind ∷ to_be_bytes w32 len

-- The octets behind the gate at a place are no record, by the octet at another place.
abbrev pub BreaksAt : List ℕ → ℕ → ℕ → Type 0
BreaksAt file gate place = (offset : ℕ) × IsNoRecord (drop (gate + 1) file) offset × (place ≡ gate + offset)

-- Why a refusal comes: what it says of the file, or a count of faults that rose.
abbrev pub IsCause : (ℕ → Type 0) → Type 0 → ℕ → ℕ → Open → Type 0
IsCause broken other before now (NotRegister place) = broken place
IsCause broken other before now OtherKey = other
IsCause broken other before now Fault = Rose before now
IsCause broken other before now Memory = Unit {0}

-- Some octets of a file were added to others.
pub record ReadsOn (told : Type 0) (octets_of_file : List ℕ) (place len : ℕ) (old new : List ℕ) : Type 0 where
  pub contents : List ℕ
  pub is : new ≡ old ++ contents
  pub size : length contents ≡ len
  pub file : told → contents ≡ take len (drop place octets_of_file)

-- The records in memory are what a file has up to the gate at a place within it.
pub record IsRead (told : Type 0) (octets_of_file head : List ℕ) (limit gate : ℕ) (places : List Place) (octets : List ℕ) : Type 0 where
  pub memory : IsInMemory (entries_of places octets) head gate places octets
  pub entries : AllByRecursion IsEntry (entries_of places octets)
  pub fits : length places ≤ limit
  pub file : told → take gate octets_of_file ≡ head ++ records_of (entries_of places octets)

-- What was found in a file of records, of a key and with a first serial, and that the file is settled now.
pub record IsFound (told : Type 0) (octets_of_file key : List ℕ) (limit first gate : ℕ) (places : List Place) (octets : List ℕ) (now : Content) : Type 0 where
  pub serial : IsFirstSerial first
  pub memory : IsInMemory (entries_of places octets) (head_of key first) gate places octets
  pub entries : AllByRecursion IsEntry (entries_of places octets)
  pub fits : length places ≤ limit
  pub stands : told → Stands octets_of_file (head_of key first) limit (entries_of places octets)
  pub settled : told → IsSettled now (head_of key first) (entries_of places octets)

-- For every list: where each image before is sound for one that begins with it, each image from then on is.
abbrev pub KeepsSound : List ℕ → ℕ → Content → Content → Type 0
KeepsSound key limit old new = (first : ℕ) (list : List Entry)
    → ((b : List ℕ) → old.image old.moment b → SoundFor (head_of key first) limit list b)
    → Leaves (SoundFor (head_of key first) limit list) old new
