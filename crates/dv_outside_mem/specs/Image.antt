-- What a crash during a call may leave of the file in memory.
use Rattle.std.specs.Prelude.{◌≡◌, ◌⊎◌, ◌+◌, ◌≤◌, ℕ, Bool, true, false, List, [], ◌∷◌, ◌++◌, length, take, drop, replicate}
use Rattle.std.specs.List.{list_all}
use Rattle.dv_outside_mem.specs.declared.made.Made.{Made}
use Rattle.dv_outside_mem.specs.declared.made.Made.TheVariants.{Look, Sync, Write, Put}
use Rattle.dv_outside_mem.specs.declared.image.Pick.{Pick}
use Rattle.dv_outside_mem.specs.declared.image.Pick.TheVariants.{Old, New, Torn}
use Rattle.dv_outside_mem.specs.Over.{over}
use Rattle.dv_outside_mem.specs.Replay.{Range, State, after, start}

-- One where these calls begin with a write, else none.
abbrev pub writes_first : List Made → ℕ
writes_first [] = 0
writes_first (Look ∷ log) = 0
writes_first (Sync ∷ log) = 0
writes_first (Write place from done rest ∷ log) = 1
writes_first (Put from done ∷ log) = 0

-- How many calls count as made in a crash during the call of this number: those before it, and itself where it is a write.
abbrev pub crash_moment : List Made → ℕ → ℕ
crash_moment log call = call + writes_first (drop call log)

-- The octets after the writes to these ranges, each octet that was written being x.
abbrev pub torn : ℕ → List Range → List ℕ → List ℕ
torn x [] octets = octets
torn x (r ∷ ranges) octets = torn x ranges (over octets r.place (replicate r.written x))

-- What a pick leaves of the writes that no sync made sure of: none of them, all, or all with each octet being another.
abbrev pub picked : Pick → State → List ℕ
picked Old s = s.durable
picked New s = s.reads
picked (Torn x) s = torn x s.ranges s.durable

-- What a pick leaves in a crash during a call.
abbrev pub image_of : List ℕ → List ℕ → List Made → ℕ → Pick → List ℕ
image_of base tape log call pick = picked pick (after tape (start base) (take (crash_moment log call) log))

-- A call that is no sync.
abbrev pub is_no_sync : Made → Bool
is_no_sync Look = true
is_no_sync Sync = false
is_no_sync (Write place from done rest) = true
is_no_sync (Put from done) = true

-- The last sync among these calls is the last of the first n; where n is 0 there is none.
pub record IsLastSync (log : List Made) (n : ℕ) : Type 0 where
  pub within : n ≤ length log
  pub sync : (n ≡ 0) ⊎ ((front : List Made) × (take n log ≡ front ++ Sync ∷ []))
  pub none_later : list_all is_no_sync (drop n log) ≡ true
