-- A run of the server: what it took, what it sent, and how it ended.
use Rattle.std.specs.Prelude.{◌≡◌, ◌≢◌, ◌⊎◌, ◌<◌, ◌≤◌, ◌+◌, ◌^◌, ℕ, Bool, false, IsTrue, List, [], ◌∷◌, ◌++◌, length, map, take, drop, Option, Result, Ok, Err}
use Rattle.std.specs.Option.{option_map}
use Rattle.std.specs.List.{concat}
use Rattle.dv_outside.specs.Releases.{Entry}
use Rattle.dv_outside.specs.Station.{Content}
use Rattle.dv_time.specs.Text.{last_second}
use Rattle.dv_session.specs.declared.serving.End.{End}
use Rattle.dv_session.specs.declared.serving.End.TheVariants.{Input, Read, Put, Fault, Clock, Memory, Refused, Range, Limit}
use Rattle.dv_session.specs.Issuing.{Book, Given, IsGiven, Notary}
use Rattle.dv_session.specs.Requests.{HasNoHeader, Requests}
use Rattle.dv_session.specs.Sending.{Sends, SendsCut}

-- ---- answers

-- An answer: the second since 1970 that the clock told for it, and the piece that is put.
pub record Answered : Type 0 where
  pub told : ℕ
  pub piece : List ℕ

-- a second since 1970-01-01T00:00:00Z, as one from 1950 on
abbrev pub from_1950 : ℕ → ℕ
from_1950 told = told + 631152000

-- the year of the second is 9999 or an earlier one
abbrev pub IsInRange : ℕ → Type 0
IsInRange told = from_1950 told ≤ last_second

-- The piece is what this request is given at the moment that was told for it, while the book was `old`, and which made it `new`.
abbrev pub IsAnswer : Notary → List ℕ → Answered → Book → Book → Type 0
IsAnswer n request a old new =
    IsInRange a.told × (g : Given) × IsGiven n (from_1950 a.told) request old new g × (a.piece ≡ g.octets)

-- The answers are those to the first requests, one each and in order, from one book to another. There may be more requests.
abbrev pub Answers : Notary → List (List ℕ) → List Answered → Book → Book → Type 0
Answers n requests [] old new = new ≡ old
Answers n [] (a ∷ more) old new = ⊥
Answers n (request ∷ requests) (a ∷ more) old new = (between : Book) × IsAnswer n request a old between × Answers n requests more between new

-- the seconds that were told for answers, and the octets of their pieces
abbrev pub told_for : List Answered → List ℕ
told_for answers = map (λ a. a.told) answers

abbrev pub pieces_of : List Answered → List ℕ
pieces_of answers = concat (map (λ a. a.piece) answers)

-- ---- runs

-- What a run took and answered: the octets of the source that were read, the requests in them, the octets after the last request, the
-- octets that were taken when there was no memory to read them, the answers that were sent whole before the register was shut, and the
-- book after these.
pub record Run : Type 0 where
  pub stream : List ℕ
  pub requests : List (List ℕ)
  pub rest : List ℕ
  pub unread : List ℕ
  pub answers : List Answered
  pub book : Book

-- The source gave these octets, where it tells what is left.
abbrev pub HasTaken : Option (List ℕ) → Option (List ℕ) → List ℕ → Type 0
HasTaken old new octets = old ≡ option_map (λ left. octets ++ left) new

-- The clock told these seconds, where it tells its answers.
abbrev pub HasTold : Option (List ℕ) → Option (List ℕ) → List ℕ → Type 0
HasTold old new told = new ≡ option_map (λ before. before ++ told) old

-- the octets that a read left at the front of a buffer
abbrev pub read_octets : {E : Type 0} → Result ℕ E → List ℕ → List ℕ
read_octets (Ok n) buffer = take n buffer
read_octets (Err e) buffer = []

pub record IsRun (n : Notary) (end : End) (run : Run) (old new : Option (List ℕ)) (book : Book) : Type 0 where
  pub taken : HasTaken old new (run.stream ++ run.unread)
  pub all_read : end ≢ Memory → run.unread ≡ []
  pub bound : length (run.stream ++ run.unread) ≤ 2 ^ 40
  pub split : Requests run.stream run.requests run.rest
  pub answers : Answers n run.requests run.answers book run.book
  pub is_open : run.book.shut ≡ false

-- how many requests there are, and how many of them have their answer
abbrev pub IsAnswered : Run → Type 0
IsAnswered run = length run.answers ≡ length run.requests

abbrev pub HasMore : Run → Type 0
HasMore run = length run.answers < length run.requests

-- ---- ends

-- What stands at the end of a run: the seconds that the clock told in it, the book, whether the source's latest read answered that nothing
-- was left, whether the station tells its content, and that content before and after.
pub record Close : Type 1 where
  pub told : List ℕ
  pub book : Book
  pub ended : Bool
  pub tells : Bool
  pub old : Content
  pub new : Content

-- No more was told, reserved or sent than for the answers.
pub record IsWhole (run : Run) (c : Close) : Type 0 where
  pub told : c.told ≡ told_for run.answers
  pub book : c.book ≡ run.book
  pub sent : IsTrue c.tells → Sends (pieces_of run.answers) c.old c.new

-- the answer to the request behind those that were answered, from the book after these
abbrev pub IsNext : Notary → Run → Answered → Book → Type 0
IsNext n run a book = (request : List ℕ) × (behind : List (List ℕ)) × (drop (length run.answers) run.requests ≡ request ∷ behind)
    × IsAnswer n request a run.book book

-- The put of the next answer failed, or it is the one that the register's fault gave, and then it was sent too.
pub record IsCut (n : Notary) (run : Run) (c : Close) : Type 0 where
  pub next : Answered
  pub is_next : IsNext n run next c.book
  pub told : c.told ≡ told_for run.answers ++ next.told ∷ []
  pub sent : IsTrue c.tells → SendsCut (pieces_of run.answers) next.piece c.old c.new

pub record IsShut (n : Notary) (run : Run) (c : Close) : Type 0 where
  pub next : Answered
  pub is_next : IsNext n run next c.book
  pub shut : IsTrue c.book.shut
  pub told : c.told ≡ told_for run.answers ++ next.told ∷ []
  pub sent : IsTrue c.tells → Sends (pieces_of run.answers ++ next.piece) c.old c.new

-- A second was told for the next request that is past the year 9999.
pub record IsPast (run : Run) (c : Close) : Type 0 where
  pub more : HasMore run
  pub past : ℕ
  pub late : last_second < from_1950 past
  pub told : c.told ≡ told_for run.answers ++ past ∷ []
  pub book : c.book ≡ run.book
  pub sent : IsTrue c.tells → Sends (pieces_of run.answers) c.old c.new

-- There was no memory: no record was reserved but those of the answers, and at most one second was told besides.
pub record IsOut (run : Run) (c : Close) : Type 0 where
  pub told : (c.told ≡ told_for run.answers) ⊎ ((more : ℕ) × IsInRange more × (c.told ≡ told_for run.answers ++ more ∷ []))
  pub list : c.book.list ≡ run.book.list
  pub sent : IsTrue c.tells → Sends (pieces_of run.answers) c.old c.new

-- How a run has ended.
abbrev pub Ends : Notary → End → Run → Close → Type 0
Ends n Input run c = (run.rest ≡ []) × IsTrue c.ended × IsAnswered run × IsWhole run c
Ends n Refused run c = (run.rest ≢ []) × (HasNoHeader run.rest ⊎ IsTrue c.ended) × IsAnswered run × IsWhole run c
Ends n Read run c = (¬ HasNoHeader run.rest) × (c.ended ≡ false) × IsAnswered run × IsWhole run c
Ends n Limit run c = (length run.stream ≡ 2 ^ 40) × (¬ HasNoHeader run.rest) × (c.ended ≡ false) × IsAnswered run × IsWhole run c
Ends n Clock run c = HasMore run × IsWhole run c
Ends n Range run c = IsPast run c
Ends n Put run c = IsCut n run c
Ends n Fault run c = IsShut n run c
Ends n Memory run c = IsOut run c

-- What a run did, by its end: from what the source had left, the book and the clock's answers as it began, to what they are at its end.
abbrev pub Serves : Notary → End → Option (List ℕ) → Option (List ℕ) → Option (List ℕ) → Option (List ℕ) → Book → Book → Bool → Bool
    → Content → Content → Type 0
Serves n end left left' told told' book book' ended tells old new =
    (run : Run) × (said : List ℕ) × IsRun n end run left left' book × HasTold told told' said
    × Ends n end run (record { told = said; book = book'; ended = ended; tells = tells; old = old; new = new })

-- ---- the requests of one piece

-- the ends that the answering of a request may bring
abbrev pub IsStop : End → Type 0
IsStop Input = ⊥
IsStop Read = ⊥
IsStop Put = Unit {0}
IsStop Fault = Unit {0}
IsStop Clock = Unit {0}
IsStop Memory = Unit {0}
IsStop Refused = ⊥
IsStop Range = Unit {0}
IsStop Limit = ⊥

-- how the answering of requests has ended, which is as a run of them ends
abbrev pub StopsAt : Notary → Result (Unit {0}) End → Run → Close → Type 0
StopsAt n (Ok x) run c = IsAnswered run × IsWhole run c
StopsAt n (Err end) run c = Ends n end run c

-- Requests were answered one after another, all of them with an Ok.
pub record AnswersRequests (n : Notary) (requests : List (List ℕ)) (result : Result (Unit {0}) End) (told told' : Option (List ℕ)) (book book' : Book)
    (tells : Bool) (old new : Content) : Type 0 where
  pub answers : List Answered
  pub between : Book
  pub said : List ℕ
  pub answered : Answers n requests answers book between
  pub is_open : between.shut ≡ false
  pub has_told : HasTold told told' said
  pub stops : StopsAt n result (record { stream = []; requests = requests; rest = []; unread = []; answers = answers; book = between })
      (record { told = said; book = book'; ended = false; tells = tells; old = old; new = new })
