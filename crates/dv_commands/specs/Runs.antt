-- Runs of a program on a register: the register as it was opened or made, and as it was left.
use Rattle.std.specs.Prelude.{◌≡◌, ◌≤◌, ℕ, Bool, false, IsTrue, List, [], length, Option}
use Rattle.dv_outside.specs.Station.{Content, Counts, Keeps, Leaves}
use Rattle.dv_lms.specs.Height.{leaf_count}
use Rattle.dv_lms.specs.Identity.{Identity}
use Rattle.dv_lms.specs.Signed.{public_of}
use Rattle.dv_register.specs.Layout.{BeginsWith, Stands}
use Rattle.dv_register.specs.Lives.{Life, Opening}
use Rattle.dv_register.specs.Opening.{KeepsSound}
use Rattle.dv_register.specs.State.{State, IsKept, IsSameRegister, head_in, limit_in}
use Rattle.dv_cert.specs.Certificates.{MayLeave}

-- the register of a key that was opened in the file of a station, as the opening left it
pub record IsOpened {V : Type 0} (tells : V → Bool) (content : V → Content) (counts : V → Counts) (key : Identity) (station : V) (s : State V) : Type 0 where
  pub identity : s.identity ≡ key
  pub base : s.base ≡ length s.list
  pub shut : s.shut ≡ false
  pub opening : s.opening ≡ s.station
  pub stands : IsTrue (tells station) → Stands (content station).reads (head_in s) (limit_in s) s.list
  pub kept : IsKept tells content counts MayLeave s
  pub keeps : IsTrue (tells station) → KeepsSound (public_of key) (leaf_count key.height) (content station) (content s.station)
  pub runs : IsTrue (tells station) → Leaves (λ b. Unit {0}) (content station) (content s.station)
  pub tells_same : tells s.station ≡ tells station
  pub faults : (counts station).faults ≤ (counts s.station).faults
  pub put_faults : (counts s.station).put_faults ≡ (counts station).put_faults

-- the register of a key and a first serial number that was made in the empty file of a station
pub record IsMade {V : Type 0} (tells : V → Bool) (content : V → Content) (counts : V → Counts) (key : Identity) (first : ℕ) (station : V) (s : State V) : Type 0 where
  pub identity : s.identity ≡ key
  pub serial : s.first ≡ first
  pub list : s.list ≡ []
  pub base : s.base ≡ 0
  pub shut : s.shut ≡ false
  pub opening : s.opening ≡ s.station
  pub empty : IsTrue (tells station) → length (content station).reads ≡ 0
  pub kept : IsKept tells content counts MayLeave s
  pub runs : IsTrue (tells station) → Leaves (λ b. Unit {0}) (content station) (content s.station)
  pub tells_same : tells s.station ≡ tells station
  pub faults : (counts station).faults ≤ (counts s.station).faults
  pub put_faults : (counts s.station).put_faults ≡ (counts station).put_faults

-- a register went on from one state to another, which handed this station back
pub record GoesOn {V : Type 0} (tells : V → Bool) (content : V → Content) (counts : V → Counts) (result : V) (old new : State V) : Type 0 where
  pub kept : IsKept tells content counts MayLeave new
  pub same : IsSameRegister old new
  pub begins : BeginsWith new.list old.list
  pub station : new.station ≡ result
  pub tells_same : tells result ≡ tells old.station
  pub later : IsTrue (tells old.station) → Keeps (content old.station) (content result)

-- a run on a register that it opened
pub record IsRunOn {V : Type 0} (tells : V → Bool) (content : V → Content) (counts : V → Counts) (key : Identity) (station result : V) (opened closed : State V) : Type 0 where
  pub is_opened : IsOpened tells content counts key station opened
  pub goes_on : GoesOn tells content counts result opened closed

-- a run on a register that it made
pub record IsRunOnMade {V : Type 0} (tells : V → Bool) (content : V → Content) (counts : V → Counts) (key : Identity) (first : ℕ) (station result : V) (made closed : State V) : Type 0 where
  pub is_made : IsMade tells content counts key first station made
  pub goes_on : GoesOn tells content counts result made closed

-- ---- runs as lives of a register

-- a crash would leave what the file holds
abbrev pub IsLasting : Content → Type 0
IsLasting c = (b : List ℕ) → c.image c.moment b → b ≡ c.reads

-- the opening of a register
abbrev pub opening_of : {V : Type 0} → (V → Content) → (V → Counts) → State V → Opening
opening_of content counts s = record { moment = (content s.opening).moment; list = s.list; put_faults = (counts s.opening).put_faults }

-- a run that began with a station and handed back another, and ended at a moment
abbrev pub life_of : {V : Type 0} → (V → Content) → V → V → ℕ → Option Opening → Life V
life_of content station result last opening = record { station = result; last = last; octets = (content station).reads; opening = opening }
