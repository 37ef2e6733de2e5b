-- What a writer has written, and the room that it has left.
use Rattle.std.specs.Prelude.{◌≡◌, ℕ, ◌+◌, ◌-◌, List, ◌++◌, length, take}
use Rattle.std.specs.Borrow.{GName}
use Rattle.dv_asn1.specs.declared.writer.Writer.{Writer}

-- the name of the loan that the slice was lent under
abbrev pub reference_of : Writer → GName
reference_of w = w.into.ghost_name

-- the octets that were written so far, the front of the slice
abbrev pub text_of : Writer → List ℕ
text_of w = take w.at w.into.now

-- how many octets can still be written
abbrev pub room_of : Writer → ℕ
room_of w = length w.into.now - w.at

-- the same writer has written these octets behind what it had written, and has so much less room
pub record Writes (old new : Writer) (octets : List ℕ) : Type 0 where
  pub same_reference : reference_of new ≡ reference_of old
  pub text : text_of new ≡ text_of old ++ octets
  pub room : room_of new + length octets ≡ room_of old
