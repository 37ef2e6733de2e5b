-- Extensions, passed by their identifiers.
use Rattle.std.specs.Prelude.{ℕ, List, Option, None, Some, Result, Ok, Err}
use Rattle.dv_schema.specs.declared.refusal.Der.{Der}
use Rattle.dv_schema.specs.Reading.{Spot, first_contents, read}
use Rattle.dv_schema.specs.Schema.{kept, node}
use Rattle.dv_repeats.specs.Lists.{Turn}
use Rattle.dv_names.specs.Types.{extension_fields}

-- the first contents of what was read, and the spot behind it
abbrev pub first_read : Result (List ℕ × Spot) Der → Option (List ℕ × Spot)
first_read (Ok x) = Some (first_contents x.0, x.1)
first_read (Err e) = None

-- the identifier of the extension that begins at a spot, and the spot behind it
abbrev pub extension_turn : Turn
extension_turn p = first_read (read (node 48 (kept extension_fields)) p)
