-- What the server does on its register.
use Rattle.std.specs.Prelude.{◌≡◌, ◌⊎◌, ℕ, Bool, IsTrue, List, [], Option, Some, Result, Ok, Err, slice_get}
use Rattle.dv_lms.specs.Identity.{Identity}
use Rattle.dv_outside.specs.Causes.{Rose}
use Rattle.dv_outside.specs.Releases.{Entry}
use Rattle.dv_outside.specs.Station.{Content, Counts}
use Rattle.dv_register.specs.State.{State}
use Rattle.dv_draft.specs.declared.server.Server.{Server}
use Rattle.dv_path.specs.Anchors.{Anchored}
use Rattle.dv_session.specs.declared.serving.End.{End}
use Rattle.dv_session.specs.Issuing.{book_of, notary_of}
use Rattle.dv_session.specs.Sending.{Sends}
use Rattle.dv_session.specs.Serving.{Serves}
use Rattle.dv_commands.specs.declared.serving.NotServed.{NotServed}
use Rattle.dv_commands.specs.declared.serving.NotServed.TheVariants.{Open, NoOwn, Fault, Memory}
use Rattle.dv_commands.specs.Answers.{IsUnopened}
use Rattle.dv_commands.specs.Runs.{IsRunOn}

-- The first record of a list is that of an own certificate.
abbrev pub HasOwn : List Entry → Type 0
HasOwn list = (contents : List ℕ) × (slice_get list 0 ≡ Some (record { kind = 1; contents = contents }))

-- nothing was added to a register, and nothing was sent
abbrev pub IsIdle : {V : Type 0} → (V → Bool) → (V → Content) → State V → State V → Type 0
IsIdle tells content old new = (new.list ≡ old.list) × (IsTrue (tells old.station) → Sends [] (content old.station) (content new.station))

-- What serving from a register that is open did, by its answer: a run, or nothing, since the first record is no own certificate's, the station's count of
-- faults rose, or for want of memory.
abbrev pub ServesFrom : {V : Type 0} → (V → Bool) → (V → Content) → (V → Counts) → Server → List Anchored → Option (List ℕ) → Option (List ℕ) → Option (List ℕ) → Option (List ℕ)
    → Bool → State V → State V → Result End NotServed → Type 0
ServesFrom tells content counts server anchors left left' told told' ended old new (Ok end) =
    HasOwn old.list × Serves (notary_of server anchors old) end left left' told told' (book_of old) (book_of new) ended (tells old.station) (content old.station) (content new.station)
ServesFrom tells content counts server anchors left left' told told' ended old new (Err NoOwn) = (¬ HasOwn old.list) × IsIdle tells content old new
ServesFrom tells content counts server anchors left left' told told' ended old new (Err Fault) =
    Rose (counts old.station).faults (counts new.station).faults × IsIdle tells content old new
ServesFrom tells content counts server anchors left left' told told' ended old new (Err Memory) = IsIdle tells content old new
ServesFrom tells content counts server anchors left left' told told' ended old new (Err (Open refusal)) = ⊥

-- A register was opened in the file of a station, and served from.
pub record ServesOn {V : Type 0} (tells : V → Bool) (content : V → Content) (counts : V → Counts) (server : Server) (anchors : List Anchored) (key : Identity)
    (left left' told told' : Option (List ℕ)) (ended : Bool) (station result : V) (answer : Result End NotServed) : Type 0 where
  pub opened : State V
  pub closed : State V
  pub run : IsRunOn tells content counts key station result opened closed
  pub serves : ServesFrom tells content counts server anchors left left' told told' ended opened closed answer

-- What the server did on a register, by its answer. Where none was opened, the opening says why.
abbrev pub ServesRegister : {V : Type 0} → (V → Bool) → (V → Content) → (V → Counts) → Server → List Anchored → Identity → Option (List ℕ) → Option (List ℕ) → Option (List ℕ)
    → Option (List ℕ) → Bool → V → V → Result End NotServed → Type 0
ServesRegister tells content counts server anchors key left left' told told' ended station result (Err (Open refusal)) = IsUnopened tells content counts key station result refusal
ServesRegister tells content counts server anchors key left left' told told' ended station result (Err NoOwn) =
    ServesOn tells content counts server anchors key left left' told told' ended station result (Err NoOwn)
ServesRegister tells content counts server anchors key left left' told told' ended station result (Err Fault) =
    ServesOn tells content counts server anchors key left left' told told' ended station result (Err Fault)
ServesRegister tells content counts server anchors key left left' told told' ended station result (Err Memory) =
    ServesOn tells content counts server anchors key left left' told told' ended station result (Err Memory)
ServesRegister tells content counts server anchors key left left' told told' ended station result (Ok end) =
    ServesOn tells content counts server anchors key left left' told told' ended station result (Ok end)
