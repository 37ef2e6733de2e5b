-- What contracts see of a station in memory.
use Rattle.std.specs.Prelude.{◌≡◌, ◌↔◌, ◌⊎◌, ℕ, List, [], Some, Contains}
use Rattle.dv_outside.specs.Station.{Content, Counts, Amount}
use Rattle.dv_outside_mem.specs.Amount.{Past, CountsCall, sure_of}
use Rattle.dv_outside_mem.specs.Journal.{content as journal_content, moment_in as journal_moment, image_in as journal_image}
use Rattle.dv_outside_mem.specs.declared.image.Pick.{Pick}
use Rattle.dv_outside_mem.specs.declared.station.MemStation.{MemStation}

-- What it tells.
abbrev pub content : MemStation → Content
content station = journal_content station.journal

-- What had been sent by now.
abbrev pub sent_now : MemStation → List ℕ
sent_now station = (content station).sent (content station).moment

-- The moment at which a crash during a call is looked at: a write counts as made, any other call not yet.
abbrev pub moment_in : MemStation → ℕ → ℕ
moment_in station call = journal_moment station.journal call

-- What a pick leaves of the file in a crash during a call.
abbrev pub image_in : MemStation → ℕ → Pick → List ℕ
image_in station call pick = journal_image station.journal call pick

-- What its calls used.
abbrev pub used_of : MemStation → Amount
used_of station = station.meter.used

-- How much its calls may use.
abbrev pub room_of : MemStation → Amount
room_of station = station.meter.room

-- The numbers of the calls that fail.
abbrev pub failing_of : MemStation → List ℕ
failing_of station = station.meter.failing

-- Its counts. It tells what was used, and its room as sure where no call is to fail.
abbrev pub counts : MemStation → Counts
counts station = record {
  faults = station.faults;
  put_faults = station.put_faults;
  used = Some (used_of station);
  sure = sure_of (failing_of station) (room_of station);
}

-- A call between these two states fails: its number is listed, or it goes past the room.
abbrev pub Fails : MemStation → MemStation → Type 0
Fails old new = Contains (failing_of old) (used_of old).calls ⊎ Past (room_of old) (used_of new)

-- Nothing happened to the file and the output.
pub record Stays (old new : Content) : Type 0 where
  pub reads : new.reads ≡ old.reads
  pub moment : new.moment ≡ old.moment
  pub image : (m : ℕ) (b : List ℕ) → new.image m b ↔ old.image m b
  pub sent : (m : ℕ) → new.sent m ≡ old.sent m

-- What any call does that is handed n octets: it is counted, and past the room it does nothing else.
pub record Serves (n : ℕ) (old new : MemStation) : Type 0 where
  pub used : CountsCall (room_of old) n (used_of old) (used_of new)
  pub room : room_of new ≡ room_of old
  pub failing : failing_of new ≡ failing_of old
  pub past : Past (room_of old) (used_of new) → Stays (content old) (content new)

-- A station of which no call was made, whose file holds these octets.
pub record IsFresh (octets : List ℕ) (station : MemStation) : Type 0 where
  pub reads : (content station).reads ≡ octets
  pub moment : (content station).moment ≡ 0
  pub image : (b : List ℕ) → (content station).image 0 b → b ≡ octets
  pub sent : (content station).sent 0 ≡ []
