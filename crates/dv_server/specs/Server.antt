-- What the server did, by its status.
use Rattle.std.specs.Prelude.{◌≡◌, ◌⊎◌, ℕ, Bool, List, Option, Result, Ok, Err, IsErr}
use Rattle.dv_lms.specs.Identity.{Identity}
use Rattle.dv_outside.specs.Station.{Content, Counts}
use Rattle.dv_draft.specs.declared.server.Server.{Server}
use Rattle.dv_path.specs.Anchors.{Anchored}
use Rattle.dv_session.specs.declared.serving.End.{End}
use Rattle.dv_session.specs.declared.serving.End.TheVariants.{Input as InputEnd, Read, Put, Fault, Clock, Memory, Refused, Range, Limit}
use Rattle.dv_commands.specs.declared.serving.NotServed.{NotServed}
use Rattle.dv_commands.specs.declared.serving.NotServed.TheVariants.{Open as NotOpened, NoOwn, Fault as NoFile, Memory as NoMemory}
use Rattle.dv_commands.specs.Serving.{ServesRegister}
use Rattle.dv_exit.specs.declared.status.Status.{Status}
use Rattle.dv_exit.specs.declared.status.Status.TheVariants.{File}
use Rattle.dv_exit.specs.Files.{Files, IsDesk, IsFileStatus, IsNoDesk}
use Rattle.dv_exit.specs.Status.{number_of, status_of_open}

-- the status of each end of a run
abbrev pub status_of_end : End → ℕ
status_of_end InputEnd = 0
status_of_end Read = 4
status_of_end Put = 5
status_of_end Fault = 6
status_of_end Clock = 7
status_of_end Memory = 8
status_of_end Refused = 9
status_of_end Range = 11
status_of_end Limit = 13

-- the status of each answer of a run on the register
abbrev pub status_of_service : Result End NotServed → ℕ
status_of_service (Ok end) = status_of_end end
status_of_service (Err (NotOpened e)) = status_of_open e
status_of_service (Err NoOwn) = 3
status_of_service (Err NoFile) = 6
status_of_service (Err NoMemory) = 8

-- What `serve` did: nothing, where its files weren't had or don't go together; or a run on the register, or nothing by what its file is. Where no request
-- was served, neither the source nor the clock was asked, which `untouched` says.
pub data ServeEnds {V : Type 0} (tells : V → Bool) (content : V → Content) (counts : V → Counts) (files : Files) (seed certificate trust : List ℕ)
    (policy : Option (List ℕ)) (left left' told told' : Option (List ℕ)) (ended : Bool) (untouched : Type 0) (status : ℕ) (station result : V) : Type 0 where
  unread : (s : Status) → IsFileStatus s → status ≡ number_of s → result ≡ station → untouched → (s ≡ File → IsNoDesk files seed certificate trust)
      → ServeEnds tells content counts files seed certificate trust policy left left' told told' ended untouched status station result
  ran : (key : Identity) (server : Server) (anchors : List Anchored) → IsDesk files seed certificate trust policy key server anchors → (answer : Result End NotServed) → status ≡ status_of_service answer
      → (IsErr answer → untouched) → ServesRegister tells content counts server anchors key left left' told told' ended station result answer
      → ServeEnds tells content counts files seed certificate trust policy left left' told told' ended untouched status station result

-- the statuses of the server's line
abbrev pub IsServeStatus : ℕ → Type 0
IsServeStatus status =
    (status ≡ 0) ⊎ ((status ≡ 3) ⊎ ((status ≡ 4) ⊎ ((status ≡ 5) ⊎ ((status ≡ 6) ⊎ ((status ≡ 7) ⊎ ((status ≡ 8) ⊎ ((status ≡ 9) ⊎ ((status ≡ 10) ⊎ ((status ≡ 11) ⊎ (status ≡ 13))))))))))
