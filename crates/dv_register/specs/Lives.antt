-- The lives of a register: runs of a program on it, one after another, each of which may end in a crash.
use Rattle.std.specs.Prelude.{◌≡◌, ◌≤◌, ℕ, List, [], ◌∷◌, Option, Some, None, slice_get}
use Rattle.std.specs.List.{AllByRecursion}
use Rattle.dv_outside.specs.Station.{Content, Counts}
use Rattle.dv_lms.specs.Height.{leaf_count}
use Rattle.dv_lms.specs.Identity.{Identity}
use Rattle.dv_lms.specs.Signed.{public_of}
use Rattle.dv_outside.specs.Releases.{Identity as RuleIdentity, Entry}
use Rattle.dv_register.specs.Layout.{BeginsWith, SoundFor, Stands, head_of}
use Rattle.dv_register.specs.State.{rule_identity}
use Rattle.dv_register.specs.Safe.{Terms, SafeAt, Sent}

-- An opening: its moment, the list at that moment, and how many puts had failed.
pub record Opening : Type 0 where
  pub moment : ℕ
  pub list : List Entry
  pub put_faults : ℕ

-- A life: its station as it was left, the moment at which it ended, what the file held as it began, and its opening, where it
-- came to one.
pub record Life (V : Type 0) : Type 0 where
  pub station : V
  pub last : ℕ
  pub octets : List ℕ
  pub opening : Option Opening

-- What the lives of a register share: what is told of a station, the head and the limit of the register, and what may be put
-- under a list.
pub record Line (V : Type 0) : Type 1 where
  pub content : V → Content
  pub counts : V → Counts
  pub head : List ℕ
  pub limit : ℕ
  pub allows : List Entry → List ℕ → Type 0

abbrev pub terms_at : {V : Type 0} → Line V → Opening → Terms
terms_at line o = record {
  opened = o.moment;
  head = line.head;
  limit = line.limit;
  base = o.list;
  allows = line.allows;
  put_faults = o.put_faults;
}

-- From an opening on, the register was safe at each moment of the life.
pub record IsSafeFrom {V : Type 0} (line : Line V) (life : Life V) (o : Opening) : Type 0 where
  pub later : o.moment ≤ life.last
  pub safe : (m : ℕ) → o.moment ≤ m → m ≤ life.last → SafeAt (terms_at line o) (line.content life.station) (line.counts life.station).put_faults m

-- A life that began with a file: it opened the list that stood there, and was safe from then on; or it came to no opening, and
-- for every list, where the file was sound for one that begins with it, so is what a crash at the end may leave.
abbrev pub IsLifeWith : {V : Type 0} → Line V → Life V → Option Opening → Type 0
IsLifeWith line life (Some o) = IsSafeFrom line life o × Stands life.octets line.head line.limit o.list
IsLifeWith line life None = (list : List Entry) → SoundFor line.head line.limit list life.octets
    → (b : List ℕ) → (line.content life.station).image life.last b → SoundFor line.head line.limit list b

-- The first life made the register.
abbrev pub IsFirstLife : {V : Type 0} → Line V → Life V → Type 0
IsFirstLife line life = (o : Opening) × (life.opening ≡ Some o) × (o.list ≡ []) × IsSafeFrom line life o

-- Each of these lives began with what the end of the one before it may have left.
abbrev pub GoesOn : {V : Type 0} → Line V → Life V → List (Life V) → Type 0
GoesOn line life [] = Unit {0}
GoesOn line life (next ∷ lives) = (line.content life.station).image life.last next.octets × IsLifeWith line next next.opening × GoesOn line next lives

-- Lives of one register, from the one that made it on.
abbrev pub IsHistory : {V : Type 0} → Line V → List (Life V) → Type 0
IsHistory line [] = Unit {0}
IsHistory line (life ∷ lives) = IsFirstLife line life × GoesOn line life lives

-- What an opening in a later life has of an earlier life with an opening: its list begins with the earlier one; and all that
-- was sent in the earlier life is pieces that are allowed under some records, each of which stands in the later list at its
-- number, and so with its serial.
pub record Inherits {V : Type 0} (line : Line V) (life : Life V) (o : Opening) (later : Opening) : Type 0 where
  pub begins : BeginsWith later.list o.list
  pub records : List Entry
  pub sent : Sent (line.content life.station) o.moment life.last (line.allows records) o.put_faults (line.counts life.station).put_faults
  pub stand : (index : ℕ) (e : Entry) → slice_get records index ≡ Some e → slice_get later.list index ≡ Some e

-- A life keeps what an earlier one gave.
abbrev pub KeepsOf : {V : Type 0} → Line V → Life V → Life V → Type 0
KeepsOf line life next = (o later : Opening) → life.opening ≡ Some o → next.opening ≡ Some later → Inherits line life o later

-- Each life keeps what each earlier one gave.
abbrev pub EachKeeps : {V : Type 0} → Line V → List (Life V) → Type 0
EachKeeps line [] = Unit {0}
EachKeeps line (life ∷ lives) = AllByRecursion (KeepsOf line life) lives × EachKeeps line lives

-- The line of a register by its key and its first serial.
abbrev pub line_of : {V : Type 0} → (V → Content) → (V → Counts) → (RuleIdentity → ℕ → List Entry → List ℕ → Type 0) → Identity → ℕ → Line V
line_of content counts allows key first = record {
  content = content;
  counts = counts;
  head = head_of (public_of key) first;
  limit = leaf_count key.height;
  allows = allows (rule_identity key) first;
}
