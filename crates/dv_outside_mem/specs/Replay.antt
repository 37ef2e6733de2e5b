-- What a station in memory tells, by the calls that were made.
use Rattle.std.specs.Prelude.{◌≡◌, ◌+◌, ℕ, Bool, true, false, List, [], ◌∷◌, ◌++◌, length, take, drop, min, nat_le, if◌then◌else◌}
use Rattle.dv_outside.specs.Station.{Content, DiffersIn}
use Rattle.dv_outside_mem.specs.Over.{over}
use Rattle.dv_outside_mem.specs.declared.made.Made.{Made}
use Rattle.dv_outside_mem.specs.declared.made.Made.TheVariants.{Look, Sync, Write, Put}

-- A write that no sync made sure of: its place, how many octets it wrote, how many it was handed, and the length of the file
-- before it.
pub record Range : Type 0 where
  pub place : ℕ
  pub written : ℕ
  pub size : ℕ
  pub end : ℕ

-- The file that the latest sync made sure of, the writes since, the file now, and the output.
pub record State : Type 0 where
  pub durable : List ℕ
  pub ranges : List Range
  pub reads : List ℕ
  pub sent : List ℕ

-- A file of which nothing was written, and no output.
abbrev pub start : List ℕ → State
start octets = record { durable = octets; ranges = []; reads = octets; sent = [] }

-- The octets of a write. It begins at most at the end of the file.
abbrev pub write_to : State → ℕ → List ℕ → ℕ → State
write_to s place octets rest = record s {
  ranges = s.ranges ++ (record { place = place; written = length octets; size = length octets + rest; end = length s.reads }) ∷ [];
  reads = over s.reads place octets;
}

-- Octets that are sent.
abbrev pub send_to : State → List ℕ → State
send_to s octets = record s { sent = s.sent ++ octets }

-- One call, whose octets lie in a tape.
abbrev pub step : List ℕ → State → Made → State
step tape s Look = s
step tape s Sync = record s { durable = s.reads; ranges = [] }
step tape s (Write place from done rest) = write_to s (min place (length s.reads)) (take done (drop from tape)) rest
step tape s (Put from done) = send_to s (take done (drop from tape))

-- Calls, one after another.
abbrev pub after : List ℕ → State → List Made → State
after tape s [] = s
after tape s (m ∷ log) = after tape (step tape s m) log

-- A file becomes another through writes of which each may leave any octets in its range and past the end.
abbrev pub Reaches : List Range → List ℕ → List ℕ → Type 0
Reaches [] from to = to ≡ from
Reaches (r ∷ ranges) from to = (mid : List ℕ) × DiffersIn r.place r.size r.end from mid × Reaches ranges mid to

-- A crash may leave these octets.
abbrev pub IsImage : State → List ℕ → Type 0
IsImage s b = Reaches s.ranges s.durable b

-- What is told after these calls. A call takes one moment.
abbrev pub content_of : List ℕ → List ℕ → List ℕ → List Made → Content
content_of base file tape log = record {
  reads = file;
  moment = length log;
  image = λ m b. IsImage (after tape (start base) (take m log)) b;
  sent = λ m. (after tape (start base) (take m log)).sent;
}

-- The octets of a call lie within the first n of the tape.
abbrev pub is_within : ℕ → Made → Bool
is_within n Look = true
is_within n Sync = true
is_within n (Write place from done rest) = nat_le (from + done) n
is_within n (Put from done) = nat_le (from + done) n

-- Those of each call do.
abbrev pub all_within : ℕ → List Made → Bool
all_within n [] = true
all_within n (m ∷ log) = if is_within n m then all_within n log else false

-- The file and the output are what the calls made of them, and the octets of each call lie within the tape.
pub record Stands (base file sent tape : List ℕ) (log : List Made) : Type 0 where
  pub reads : file ≡ (after tape (start base) log).reads
  pub out : sent ≡ (after tape (start base) log).sent
  pub within : all_within (length tape) log ≡ true
