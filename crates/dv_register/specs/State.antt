-- What contracts see of a register.
use Rattle.std.specs.Prelude.{◌≡◌, ◌+◌, ◌-◌, ◌≤◌, ℕ, Bool, true, false, IsTrue, Result, Ok, Err, List, [], ◌∷◌, ◌++◌, length, take, drop, if◌then◌else◌, nat_lt, Vec, vec_len, vec_capacity}
use Rattle.std.specs.List.{AllByRecursion}
use Rattle.std.specs.declared.alloc.Global.{Global}
use Rattle.dv_lms.specs.Height.{leaf_count, levels}
use Rattle.dv_lms.specs.Identity.{Identity}
use Rattle.dv_lms.specs.Signed.{public_of}
use Rattle.dv_outside.specs.Causes.{Rose}
use Rattle.dv_outside.specs.Station.{Content, Counts}
use Rattle.dv_outside.specs.Releases.{Identity as RuleIdentity, Entry}
use Rattle.dv_register.specs.Layout.{IsEntry, head_of, records_of}
use Rattle.dv_register.specs.Refusals.{IsFirstSerial}
use Rattle.dv_register.specs.Safe.{Terms, IsSafe, IsSettled}
use Rattle.dv_register.specs.SigningKey.{SlotState}
use Rattle.dv_register.specs.declared.place.Place.{Place}

-- A register: its station now and as it was at the opening, its key, the serial of its first record, its list, how many
-- members of that there were at the opening, whether it is shut, and for how much there is room.
pub record State (V : Type 0) : Type 0 where
  pub station : V
  pub opening : V
  pub identity : Identity
  pub first : ℕ
  pub list : List Entry
  pub base : ℕ
  pub shut : Bool
  pub spare : ℕ

-- The identity of a key, as a rule on what may be put sees it.
abbrev pub rule_identity : Identity → RuleIdentity
rule_identity key = record { id = key.id; height = levels key.height; seed = key.seed }

-- The octets of a register's head.
abbrev pub head_in : {V : Type 0} → State V → List ℕ
head_in s = head_of (public_of s.identity) s.first

-- How many records it may hold: one for each leaf of its key.
abbrev pub limit_in : {V : Type 0} → State V → ℕ
limit_in s = leaf_count s.identity.height

-- What the record of this number has for its certificate.
abbrev pub slot_at : {V : Type 0} → State V → ℕ → SlotState
slot_at s index = record { serial = s.first + index; leaf = record { number = index; key = s.identity } }

-- The station of a register that was made or opened, or the one that a refusal hands back.
abbrev pub station_left : {V E : Type 0} → Result (State V) (V × E) → V
station_left (Ok s) = s.station
station_left (Err refused) = refused.0

-- What a register is measured by.
abbrev pub terms_of : {V : Type 0} → (V → Content) → (V → Counts) → (RuleIdentity → ℕ → List Entry → List ℕ → Type 0) → State V → Terms
terms_of content counts allows s = record {
  opened = (content s.opening).moment;
  head = head_in s;
  limit = limit_in s;
  base = take s.base s.list;
  allows = allows (rule_identity s.identity) s.first;
  put_faults = (counts s.opening).put_faults;
}

-- What holds of every register: its records are records and not too many, it is shut only where the count of faults rose
-- since the opening, and where its station tells its content it is safe at every moment since then.
pub record IsKept {V : Type 0} (tells : V → Bool) (content : V → Content) (counts : V → Counts) (allows : RuleIdentity → ℕ → List Entry → List ℕ → Type 0) (s : State V) : Type 0 where
  pub entries : AllByRecursion IsEntry s.list
  pub fits : length s.list ≤ limit_in s
  pub key : length (public_of s.identity) ≡ 60
  pub serial : IsFirstSerial s.first
  pub base : s.base ≤ length s.list
  pub faults : (counts s.opening).faults ≤ (counts s.station).faults
  pub shut : s.shut ≡ true → Rose (counts s.opening).faults (counts s.station).faults
  pub safe : IsTrue (tells s.station) → IsSafe (terms_of content counts allows s) (content s.station) (counts s.station).put_faults s.list

-- What every call that is lent a register keeps.
pub record IsSameRegister {V : Type 0} (old new : State V) : Type 0 where
  pub opening : new.opening ≡ old.opening
  pub identity : new.identity ≡ old.identity
  pub first : new.first ≡ old.first
  pub base : new.base ≡ old.base

-- The records by their places in the memory of contents.
abbrev pub entries_of : List Place → List ℕ → List Entry
entries_of [] octets = []
entries_of (p ∷ places) octets = (record { kind = p.kind; contents = take p.len (drop p.from octets) }) ∷ entries_of places octets

-- One more than the octets for which there is room, where there is room for an entry; otherwise none.
abbrev pub spare_of : Vec Place Global → Vec ℕ Global → ℕ
spare_of places octets = if nat_lt (vec_len places) (vec_capacity places) then vec_capacity octets - vec_len octets + 1 else 0

abbrev pub state_of : {V : Type 0} → V → V → Identity → ℕ → ℕ → Bool → Vec Place Global → Vec ℕ Global → State V
state_of station opening identity first base shut places octets = record {
  station = station;
  opening = opening;
  identity = identity;
  first = first;
  list = entries_of places.items octets.items;
  base = base;
  shut = shut;
  spare = spare_of places octets;
}

-- The gate's place is right behind the records, and each record lies within the memory of contents.
pub record IsInMemory (the_list : List Entry) (head : List ℕ) (gate : ℕ) (places : List Place) (octets : List ℕ) : Type 0 where
  pub place : length (head ++ records_of the_list) ≡ gate
  pub within : AllByRecursion (λ p. p.from + p.len ≤ length octets) places
  pub list : the_list ≡ entries_of places octets

-- What holds of a register and its fields.
pub record IsHeld {V : Type 0} (tells : V → Bool) (content : V → Content) (counts : V → Counts) (allows : RuleIdentity → ℕ → List Entry → List ℕ → Type 0) (s : State V)
    (limit gate : ℕ) (places : List Place) (octets : List ℕ) : Type 0 where
  pub kept : IsKept tells content counts allows s
  pub leaves : limit ≡ limit_in s
  pub memory : IsInMemory s.list (head_in s) gate places octets
  pub settled : IsTrue (tells s.station) → s.shut ≡ false → IsSettled (content s.station) (head_in s) s.list
