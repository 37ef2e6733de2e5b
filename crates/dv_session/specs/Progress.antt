-- How far a stream of requests has been read.
use Rattle.std.specs.Prelude.{◌≡◌, ◌↔◌, ℕ, Bool, false, IsTrue, Option, Some, None, List, [], length, if◌then◌else◌}
use Rattle.std.specs.List.{concat}
use Rattle.dv_session.specs.Requests.{Requests, HasNoHeader}

-- How far a stream has been read: how many octets its whole requests have, how many octets have come after them, these
-- octets themselves as long as the stream hasn't stopped, and whether it has.
pub record Progress : Type 0 where
  pub before : ℕ
  pub behind : ℕ
  pub rest : List ℕ
  pub stopped : Bool

-- nothing has been read
abbrev pub start : Progress
start = record { before = 0; behind = 0; rest = []; stopped = false }

-- where the stream has stopped: the place of the value that begins as no request does
abbrev pub stop_of : Progress → Option ℕ
stop_of progress = if progress.stopped then Some progress.before else None

-- The whole requests have so many octets, and this rest has come after them. The stream has stopped exactly where the rest
-- begins no header, and its octets are kept no longer then.
pub record IsAt (progress : Progress) (taken : ℕ) (rest : List ℕ) : Type 0 where
  pub before : progress.before ≡ taken
  pub behind : progress.behind ≡ length rest
  pub kept : progress.rest ≡ (if progress.stopped then [] else rest)
  pub stopped : IsTrue progress.stopped ↔ HasNoHeader rest

-- the stream has been read so far, and these are its requests
abbrev pub Reads : Progress → List ℕ → List (List ℕ) → Type 0
Reads progress stream requests =
    (rest : List ℕ) × Requests stream requests rest × IsAt progress (length (concat requests)) rest
