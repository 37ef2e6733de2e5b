-- Attributes, passed by their types.
use Rattle.std.specs.Prelude.{ℕ, List, Option, None, Some, Result, Ok, Err}
use Rattle.dv_schema.specs.declared.refusal.Der.{Der}
use Rattle.dv_schema.specs.Reading.{Spot, read}
use Rattle.dv_schema.specs.Schema.{ValueOf}
use Rattle.dv_cms.specs.Types.{attribute}
use Rattle.dv_repeats.specs.Lists.{Turn}
use Rattle.dv_signed.specs.Attributes.{type_of}

-- the type of the attribute that was read, and the spot behind it
abbrev pub type_read : Result (ValueOf attribute × Spot) Der → Option (List ℕ × Spot)
type_read (Ok x) = Some (type_of x.0, x.1)
type_read (Err e) = None

-- the type of the attribute that begins at a spot, and the spot behind it
abbrev pub attribute_turn : Turn
attribute_turn p = type_read (read attribute p)
