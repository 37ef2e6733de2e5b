-- The values that kept octets hold.
use Rattle.std.specs.Prelude.{◌≡◌, ℕ, List, [], length, Result, Ok, Err}
use Rattle.dv_schema.specs.declared.refusal.Der.{Der}
use Rattle.dv_schema.specs.Schema.{Schema, ValueOf}
use Rattle.dv_schema.specs.Reading.{Spot, all_at, read}
use Rattle.dv_schema.specs.Answers.{counted}

-- the front of a slice, where values are at depth 1
abbrev pub front_of : List ℕ → Spot
front_of octets = record { levels = 32; place = 0; rest = octets }

-- what was read, or none where it was refused
abbrev pub or_none : {A : Type 0} → Result (List A) Der → List A
or_none (Ok xs) = xs
or_none (Err d) = []

-- the values of the schema that these octets are, one after another
unfoldable pub values_in : (s : Schema) → List ℕ → List (ValueOf s)
values_in s octets = or_none (all_at (read s) (length octets) (front_of octets))

-- these octets are so many values of the schema, one after another
unfoldable pub Counts : (s : Schema) → List ℕ → ℕ → Type 0
Counts s octets n = counted 0 (all_at (read s) (length octets) (front_of octets)) ≡ Ok n
