-- The extensions of a certificate.
use Rattle.std.specs.Prelude.{ℕ, Bool, true, false, List, length, Option, Some, None, Result, Ok, Err}
use Rattle.dv_schema.specs.declared.refusal.Der.{Der}
use Rattle.dv_schema.specs.Reading.{all_at, read}
use Rattle.dv_names.specs.Types.{extension}
use Rattle.dv_x509.specs.Members.{front_of}

-- it was read
abbrev pub was_read : {A : Type 0} → Result A Der → Bool
was_read (Ok x) = true
was_read (Err d) = false

-- contents octets of Extensions, where there are some, are extensions one after another
abbrev pub are_read : Option (List ℕ) → Bool
are_read None = true
are_read (Some octets) = was_read (all_at (read extension) (length octets) (front_of octets))
