-- The types of RFC 4210 5.2.3, one line each.
use Rattle.std.specs.Prelude.{ℕ, true}
use Rattle.dv_schema.specs.Rules.{any_octets}
use Rattle.dv_schema.specs.Schema.{Schema, node, Body, done, field, optional}
use Rattle.dv_schema.specs.Types.{primitive, number_to, list_of}
use Rattle.dv_status.specs.Fail.{is_fail}

-- a UTF8String, whose octets aren't looked at
abbrev pub utf8_string : Schema
utf8_string = primitive 12 any_octets

-- PKIFailureInfo: a BIT STRING
abbrev pub fail_info : Schema
fail_info = primitive 3 is_fail

-- PKIStatusInfo: SEQUENCE { status INTEGER 0 to 6, statusString SEQUENCE OF UTF8String opt, at least one, failInfo BIT STRING opt },
-- under this tag
abbrev pub status_fields : Body
status_fields = field (number_to 2 6) (optional (list_of 48 true utf8_string) (optional fail_info done))

abbrev pub status_info : ℕ → Schema
status_info tag = node tag status_fields
