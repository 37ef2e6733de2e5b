-- What a station tells of its register file and its output, and what each call does to that.
use Rattle.std.specs.Prelude.{◌≡◌, ◌↔◌, ◌+◌, ◌<◌, ◌≤◌, ℕ, List, [], ◌++◌, length, take, drop, Option, Result, OnOk, is_some, Some}

-- What is told of a station: the octets of the file now, the count of moments, which octets a crash at a moment may leave
-- in the file, and what had been sent by a moment.
pub record Content : Type 1 where
  pub reads : List ℕ
  pub moment : ℕ
  pub image : ℕ → List ℕ → Type 0
  pub sent : ℕ → List ℕ

-- What a station that tells nothing has for its content.
abbrev pub untold : Content
untold = record { reads = []; moment = 0; image = λ m b. ⊥; sent = λ m. [] }

-- How many calls were made, and how many octets were handed to `write_at` and `put`.
pub record Amount : Type 0 where
  pub calls : ℕ
  pub octets : ℕ

-- Neither number of what was used is past the other amount's.
abbrev pub Within : Amount → Amount → Type 0
Within used room = (used.calls ≤ room.calls) × (used.octets ≤ room.octets)

-- The counts of faults of the register and of puts; what the calls have used, where that is told; and up to which amount no
-- call faults, where that is told.
pub record Counts : Type 0 where
  pub faults : ℕ
  pub put_faults : ℕ
  pub used : Option Amount
  pub sure : Option Amount

-- The octets are those of before, with these from a place on.
abbrev pub Holds : List ℕ → ℕ → List ℕ → List ℕ → Type 0
Holds old place octets new = new ≡ take place old ++ octets ++ drop (place + length octets) old

-- The octets are the same before a range of n octets from a place on, and behind it.
pub record ChangesIn (place n : ℕ) (old new : List ℕ) : Type 0 where
  pub before : take place new ≡ take place old
  pub after : drop (place + n) new ≡ drop (place + n) old

-- The same, but what stands past an end may be any octets too.
pub record DiffersIn (place n end : ℕ) (old new : List ℕ) : Type 0 where
  pub before : take place new ≡ take place old
  pub after : drop (place + n) (take end new) ≡ drop (place + n) (take end old)

-- What was told of the moments so far stands, and the count of moments doesn't fall.
pub record Keeps (old new : Content) : Type 0 where
  pub later : old.moment ≤ new.moment
  pub images : (m : ℕ) (b : List ℕ) → m ≤ old.moment → new.image m b → old.image m b
  pub kept : (m : ℕ) (b : List ℕ) → m ≤ old.moment → old.image m b → new.image m b
  pub sent : (m : ℕ) → m ≤ old.moment → new.sent m ≡ old.sent m

-- P of each moment in a call or right after it.
abbrev pub Meanwhile : Content → Content → (ℕ → Type 0) → Type 0
Meanwhile old new P = (m : ℕ) → old.moment < m → m ≤ new.moment → P m

-- Nothing is sent.
abbrev pub Silent : Content → Content → Type 0
Silent old new = Meanwhile old new (λ m. new.sent m ≡ old.sent old.moment)

-- Each image was one when the call began.
abbrev pub NoNewImage : Content → Content → Type 0
NoNewImage old new = Meanwhile old new (λ m. (b : List ℕ) → new.image m b → old.image old.moment b)

-- A call that only looks.
pub record Looks (old new : Content) : Type 0 where
  pub keeps : Keeps old new
  pub reads : new.reads ≡ old.reads
  pub images : NoNewImage old new
  pub silent : Silent old new

-- A sync: after one that succeeds a crash leaves what the file holds.
pub record Syncs {T E : Type 0} (result : Result T E) (old new : Content) : Type 0 where
  pub looks : Looks old new
  pub durable : OnOk result ((b : List ℕ) → new.image new.moment b → b ≡ new.reads)

-- A write: after an Ok the octets stand in their range, and nothing changes outside. Until a sync a crash may leave any
-- octets in the range and past the end that the file had.
pub record Writes {T E : Type 0} (place : ℕ) (octets : List ℕ) (result : Result T E) (old new : Content) : Type 0 where
  pub keeps : Keeps old new
  pub written : OnOk result (Holds old.reads place octets new.reads)
  pub outside : ChangesIn place (length octets) old.reads new.reads
  pub images : Meanwhile old new (λ m. (b : List ℕ) → new.image m b
      → (a : List ℕ) × old.image old.moment a × DiffersIn place (length octets) (length old.reads) a b)
  pub silent : Silent old new

-- A put: at each moment a front of the octets is sent, and after an Ok all of them. It changes neither the file nor an image.
pub record Puts {T E : Type 0} (octets : List ℕ) (result : Result T E) (old new : Content) : Type 0 where
  pub keeps : Keeps old new
  pub reads : new.reads ≡ old.reads
  pub images : Meanwhile old new (λ m. (b : List ℕ) → new.image m b ↔ old.image old.moment b)
  pub sending : Meanwhile old new (λ m. (k : ℕ) × (k ≤ length octets) × (new.sent m ≡ old.sent old.moment ++ take k octets))
  pub whole : OnOk result (new.sent new.moment ≡ old.sent old.moment ++ octets)

-- At most n calls and m octets more, and neither number falls.
pub record Adds (n m : ℕ) (old new : Amount) : Type 0 where
  pub calls_kept : old.calls ≤ new.calls
  pub calls : new.calls ≤ old.calls + n
  pub octets_kept : old.octets ≤ new.octets
  pub octets : new.octets ≤ old.octets + m

-- What n calls do to the counts that are handed m octets between them. Where what is used after them is within what is sure,
-- no count of faults rose.
pub record Spends (n m : ℕ) (old new : Counts) : Type 0 where
  pub later : old.faults ≤ new.faults
  pub put_later : old.put_faults ≤ new.put_faults
  pub told : is_some new.used ≡ is_some old.used
  pub used : (a b : Amount) → old.used ≡ Some a → new.used ≡ Some b → Adds n m a b
  pub sure : new.sure ≡ old.sure
  pub spared : (a b : Amount) → new.used ≡ Some a → new.sure ≡ Some b → Within a b
      → (new.faults ≡ old.faults) × (new.put_faults ≡ old.put_faults)

-- From one moment on nothing is sent, and each image has P, in a call or between two. It is said of any run of calls.
pub record Leaves (P : List ℕ → Type 0) (old new : Content) : Type 0 where
  pub keeps : Keeps old new
  pub silent : Silent old new
  pub images : Meanwhile old new (λ m. (b : List ℕ) → new.image m b → P b)
  pub now : (b : List ℕ) → new.image new.moment b → P b
