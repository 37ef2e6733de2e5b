-- What the commands on a register answer.
use Rattle.std.specs.Prelude.{◌≡◌, ◌≢◌, ◌⊎◌, ◌+◌, ◌<◌, ℕ, Bool, IsTrue, List, [], ◌∷◌, length, Some, None, Result, Vec, Ok, Err, slice_get}
use Rattle.std.specs.declared.alloc.Global.{Global}
use Rattle.dv_outside.specs.Causes.{Rose}
use Rattle.dv_outside.specs.Releases.{Entry}
use Rattle.dv_outside.specs.Station.{Content, Counts, Looks}
use Rattle.dv_lms.specs.Height.{leaf_count}
use Rattle.dv_lms.specs.Identity.{Identity}
use Rattle.dv_lms.specs.Signed.{public_of}
use Rattle.dv_register.specs.Opening.{IsCause, KeepsSound}
use Rattle.dv_register.specs.Refusals.{IsNoRegister, IsOtherKey}
use Rattle.dv_register.specs.State.{State, rule_identity}
use Rattle.dv_register.specs.declared.refusals.Open.{Open}
use Rattle.dv_register.specs.declared.refusals.Create.{Create as NotMade}
use Rattle.dv_register.specs.declared.refusals.Create.TheVariants.{NotEmpty, Fault as NotWritten}
use Rattle.dv_schema.specs.declared.refusal.Der.{Der}
use Rattle.dv_schema.specs.Reading.{read_all}
use Rattle.dv_schema.specs.Schema.{spelling}
use Rattle.dv_members.specs.Members.{front_of}
use Rattle.dv_x509.specs.declared.own.OwnParts.{OwnParts}
use Rattle.dv_x509.specs.Own.{OwnTbs}
use Rattle.dv_draft.specs.OwnRecords.{own_record, view_own}
use Rattle.dv_draft.specs.Records.{record_in}
use Rattle.dv_cert.specs.Certificates.{certificate_of, own_signed}
use Rattle.dv_session.specs.Sending.{Sends, SendsCut}
use Rattle.dv_commands.specs.Runs.{IsRunOn, IsRunOnMade}
use Rattle.dv_commands.specs.declared.refusals.Reissue.{Reissue}
use Rattle.dv_commands.specs.declared.refusals.Reissue.TheVariants.{Open as NotOpened, Absent, Record, Fault as ReissueFault, Put as ReissuePut, Memory as ReissueMemory}
use Rattle.dv_commands.specs.declared.refusals.Init.{Init}
use Rattle.dv_commands.specs.declared.refusals.Init.TheVariants.{Create, Fault as InitFault, Put as InitPut, Memory as InitMemory}

-- ---- a certificate put again

-- the contents of a record don't decode as those of its kind, by this first refusal
abbrev pub IsRefusedAs : Entry → Der → Type 0
IsRefusedAs entry d =
    ((entry.kind ≡ 1) × (read_all own_record (front_of entry.contents) ≡ Err d)) ⊎ ((entry.kind ≡ 2) × (record_in entry.contents ≡ Err d))

-- the certificate of the record with a serial number, in the list of a key's register, is these octets
pub record IsCertificateOf (key : Identity) (first : ℕ) (list : List Entry) (serial : ℕ) (octets : List ℕ) : Type 0 where
  pub index : ℕ
  pub entry : Entry
  pub serial_is : serial ≡ first + index
  pub there : slice_get list index ≡ Some entry
  pub certificate : certificate_of (rule_identity key) first index entry ≡ Some octets

-- the record with a serial number stands for no certificate, since its contents don't decode
pub record IsUnreadable (key : Identity) (first : ℕ) (list : List Entry) (serial : ℕ) (d : Der) : Type 0 where
  pub index : ℕ
  pub entry : Entry
  pub serial_is : serial ≡ first + index
  pub there : slice_get list index ≡ Some entry
  pub refused : IsRefusedAs entry d
  pub certificate : certificate_of (rule_identity key) first index entry ≡ None

-- the list has no record with a serial number
abbrev pub IsAbsent : ℕ → List Entry → ℕ → Type 0
IsAbsent first list serial = (index : ℕ) → index < length list → serial ≢ first + index

-- What making the certificate of the record with an index again answers: its octets, or why not. Station calls are made from one state to
-- another.
abbrev pub IsRemade : {V : Type 0} → (V → Counts) → Identity → ℕ → List Entry → ℕ → V → V → Result (Vec ℕ Global) Reissue → Type 0
IsRemade counts key first list index old new (Ok v) = (entry : Entry) × (slice_get list index ≡ Some entry) × (certificate_of (rule_identity key) first index entry ≡ Some v.items)
IsRemade counts key first list index old new (Err (Record d)) = (entry : Entry) × (slice_get list index ≡ Some entry) × IsRefusedAs entry d
IsRemade counts key first list index old new (Err ReissueFault) = Rose (counts old).faults (counts new).faults
IsRemade counts key first list index old new (Err ReissueMemory) = Unit {0}
IsRemade counts key first list index old new (Err Absent) = ⊥
IsRemade counts key first list index old new (Err ReissuePut) = ⊥
IsRemade counts key first list index old new (Err (NotOpened e)) = ⊥

-- What putting the certificate with a serial number again answers, and what is sent from one state of a station to another, where the
-- station tells it.
abbrev pub PutsAgain : {V : Type 0} → (V → Bool) → (V → Content) → (V → Counts) → Identity → ℕ → List Entry → ℕ → V → V → Result (Unit {0}) Reissue → Type 0
PutsAgain tells content counts key first list serial old new (Ok u) =
    (octets : List ℕ) × IsCertificateOf key first list serial octets × (IsTrue (tells old) → Sends octets (content old) (content new))
PutsAgain tells content counts key first list serial old new (Err ReissuePut) =
    (octets : List ℕ) × IsCertificateOf key first list serial octets × (IsTrue (tells old) → SendsCut [] octets (content old) (content new))
    × Rose (counts old).put_faults (counts new).put_faults
PutsAgain tells content counts key first list serial old new (Err Absent) = IsAbsent first list serial × (IsTrue (tells old) → Sends [] (content old) (content new))
PutsAgain tells content counts key first list serial old new (Err (Record d)) =
    IsUnreadable key first list serial d × (IsTrue (tells old) → Sends [] (content old) (content new))
PutsAgain tells content counts key first list serial old new (Err ReissueFault) =
    Rose (counts old).faults (counts new).faults × (IsTrue (tells old) → Sends [] (content old) (content new))
PutsAgain tells content counts key first list serial old new (Err ReissueMemory) = IsTrue (tells old) → Sends [] (content old) (content new)
PutsAgain tells content counts key first list serial old new (Err (NotOpened e)) = ⊥

-- a run opened a register, left its list as it was, and put the certificate with a serial number again or answered why not
pub record ReissuesOn {V : Type 0} (tells : V → Bool) (content : V → Content) (counts : V → Counts) (key : Identity) (serial : ℕ) (station left : V) (answer : Result (Unit {0}) Reissue) : Type 0 where
  pub opened : State V
  pub closed : State V
  pub run : IsRunOn tells content counts key station left opened closed
  pub list : closed.list ≡ opened.list
  pub puts : PutsAgain tells content counts key opened.first opened.list serial station left answer

-- a run opened no register: why, and nothing was sent
pub record IsUnopened {V : Type 0} (tells : V → Bool) (content : V → Content) (counts : V → Counts) (key : Identity) (station left : V) (e : Open) : Type 0 where
  pub cause : IsCause (λ place. IsTrue (tells station) → IsNoRegister (content station).reads (public_of key) (leaf_count key.height) place)
      (IsTrue (tells station) → IsOtherKey (content station).reads (public_of key)) (counts station).faults (counts left).faults e
  pub keeps : IsTrue (tells station) → KeepsSound (public_of key) (leaf_count key.height) (content station) (content left)
  pub silent : IsTrue (tells station) → Sends [] (content station) (content left)

-- what a reissue answers
abbrev pub Reissues : {V : Type 0} → (V → Bool) → (V → Content) → (V → Counts) → Identity → ℕ → V → V → Result (Unit {0}) Reissue → Type 0
Reissues tells content counts key serial station left (Err (NotOpened e)) = IsUnopened tells content counts key station left e
Reissues tells content counts key serial station left (Err e) = ReissuesOn tells content counts key serial station left (Err e)
Reissues tells content counts key serial station left (Ok u) = ReissuesOn tells content counts key serial station left (Ok u)

-- ---- the first record

-- the record of an own certificate
abbrev pub own_entry : OwnParts → Entry
own_entry parts = record { kind = 1; contents = spelling own_record (view_own parts) }

-- the own certificate of a key with the first serial number
abbrev pub own_octets : Identity → ℕ → OwnParts → List ℕ
own_octets key first parts = own_signed key 0 (OwnTbs parts.name.now parts.from parts.until (public_of key) first)

-- What adding the first record and putting its certificate answers, which list the register has then, and what is sent from one state
-- of a station to another, where the station tells it.
abbrev pub PutsFirst : {V : Type 0} → (V → Bool) → (V → Content) → (V → Counts) → Entry → List ℕ → List Entry → V → V → Result (Unit {0}) Init → Type 0
PutsFirst tells content counts entry octets list old new (Ok u) = (list ≡ entry ∷ []) × (IsTrue (tells old) → Sends octets (content old) (content new))
PutsFirst tells content counts entry octets list old new (Err InitPut) =
    (list ≡ entry ∷ []) × (IsTrue (tells old) → SendsCut [] octets (content old) (content new)) × Rose (counts old).put_faults (counts new).put_faults
PutsFirst tells content counts entry octets list old new (Err InitFault) =
    (list ≡ []) × (IsTrue (tells old) → Sends [] (content old) (content new)) × Rose (counts old).faults (counts new).faults
PutsFirst tells content counts entry octets list old new (Err InitMemory) =
    ((list ≡ []) ⊎ (list ≡ entry ∷ [])) × (IsTrue (tells old) → Sends [] (content old) (content new))
PutsFirst tells content counts entry octets list old new (Err (Create e)) = ⊥

-- a run made a register, added the record of its own certificate and put that, or answered why not
pub record InitsOn {V : Type 0} (tells : V → Bool) (content : V → Content) (counts : V → Counts) (key : Identity) (first : ℕ) (parts : OwnParts) (station left : V) (answer : Result (Unit {0}) Init) : Type 0 where
  pub made : State V
  pub closed : State V
  pub run : IsRunOnMade tells content counts key first station left made closed
  pub certificate : certificate_of (rule_identity key) first 0 (own_entry parts) ≡ Some (own_octets key first parts)
  pub puts : PutsFirst tells content counts (own_entry parts) (own_octets key first parts) closed.list station left answer

-- a run made no register: why, and nothing was sent; a file that isn't empty is only looked at
pub record IsUnmade {V : Type 0} (tells : V → Bool) (content : V → Content) (counts : V → Counts) (key : Identity) (station left : V) (e : NotMade) : Type 0 where
  pub fault : e ≡ NotWritten → Rose (counts station).faults (counts left).faults
  pub not_empty : e ≡ NotEmpty → IsTrue (tells station) → 0 < length (content station).reads
  pub looks : IsTrue (tells station) → 0 < length (content station).reads → Looks (content station) (content left)
  pub keeps : IsTrue (tells station) → 0 < length (content station).reads
      → KeepsSound (public_of key) (leaf_count key.height) (content station) (content left)
  pub silent : IsTrue (tells station) → Sends [] (content station) (content left)

-- what an init answers; where memory is wanted before the register is made, nothing is done
abbrev pub Inits : {V : Type 0} → (V → Bool) → (V → Content) → (V → Counts) → Identity → ℕ → OwnParts → V → V → Result (Unit {0}) Init → Type 0
Inits tells content counts key first parts station left (Err (Create e)) = IsUnmade tells content counts key station left e
Inits tells content counts key first parts station left (Err InitMemory) = (left ≡ station) ⊎ InitsOn tells content counts key first parts station left (Err InitMemory)
Inits tells content counts key first parts station left (Err InitFault) = InitsOn tells content counts key first parts station left (Err InitFault)
Inits tells content counts key first parts station left (Err InitPut) = InitsOn tells content counts key first parts station left (Err InitPut)
Inits tells content counts key first parts station left (Ok u) = InitsOn tells content counts key first parts station left (Ok u)
