-- What contracts see of a journal.
use Rattle.std.specs.Prelude.{◌≡◌, ℕ, ◌+◌, ◌<◌, ◌≤◌, List, vec_len, vec_capacity}
use Rattle.dv_outside.specs.Station.{Content, Amount, Within}
use Rattle.dv_outside_mem.specs.Image.{crash_moment, image_of}
use Rattle.dv_outside_mem.specs.Replay.{content_of}
use Rattle.dv_outside_mem.specs.declared.image.Pick.{Pick}
use Rattle.dv_outside_mem.specs.declared.journal.Journal.{Journal}

-- What it tells.
abbrev pub content : Journal → Content
content j = content_of j.base.items j.file.items j.tape.items j.log.items

-- The moment at which a crash during a call is looked at, and what a pick leaves then.
abbrev pub moment_in : Journal → ℕ → ℕ
moment_in j call = crash_moment j.log.items call

abbrev pub image_in : Journal → ℕ → Pick → List ℕ
image_in j call pick = image_of j.base.items j.tape.items j.log.items call pick

-- There is room for a call that is handed so many octets.
pub record HasRoom (octets : ℕ) (j : Journal) : Type 0 where
  pub log : vec_len j.log < vec_capacity j.log
  pub tape : vec_len j.tape + octets ≤ vec_capacity j.tape
  pub file : vec_len j.file + octets ≤ vec_capacity j.file
  pub sent : vec_len j.sent + octets ≤ vec_capacity j.sent

-- A call that was handed so many octets filled no more than its part of the memory.
pub record Fills (octets : ℕ) (old new : Journal) : Type 0 where
  pub log : vec_len new.log ≡ vec_len old.log + 1
  pub tape : vec_len new.tape ≤ vec_len old.tape + octets
  pub file : vec_len new.file ≤ vec_len old.file + octets
  pub sent : vec_len new.sent ≤ vec_len old.sent + octets
  pub log_room : vec_capacity old.log ≤ vec_capacity new.log
  pub tape_room : vec_capacity old.tape ≤ vec_capacity new.tape
  pub file_room : vec_capacity old.file ≤ vec_capacity new.file
  pub sent_room : vec_capacity old.sent ≤ vec_capacity new.sent

-- What was used of a room is what the memory is filled with, and the rest of the room is free.
pub record Fits (used room : Amount) (j : Journal) : Type 0 where
  pub calls : Within used room → vec_len j.log ≡ used.calls
  pub log_room : room.calls ≤ vec_capacity j.log
  pub tape_room : vec_len j.tape + room.octets ≤ vec_capacity j.tape + used.octets
  pub file_room : vec_len j.file + room.octets ≤ vec_capacity j.file + used.octets
  pub sent_room : vec_len j.sent + room.octets ≤ vec_capacity j.sent + used.octets
