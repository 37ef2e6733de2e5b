-- The contents of the record of a register's own certificate.
use Rattle.std.specs.Prelude.{ℕ, List}
use Rattle.std.specs.Str.{is_utf8}
use Rattle.dv_schema.specs.Schema.{Schema, node, Body, done, field, ValueOf}
use Rattle.dv_schema.specs.Types.{primitive}
use Rattle.dv_time.specs.Types.{generalized_time}
use Rattle.dv_time.specs.Views.{view_moment}
use Rattle.dv_x509.specs.declared.own.OwnParts.{OwnParts}

-- SEQUENCE { name UTF8String, from GeneralizedTime, until GeneralizedTime }
abbrev pub own_record_fields : Body
own_record_fields = field (primitive 12 is_utf8) (field generalized_time (field generalized_time done))

abbrev pub own_record : Schema
own_record = node 48 own_record_fields

-- the record of these parts
abbrev pub own_parts_of : List ℕ → ℕ → ℕ → ValueOf own_record
own_parts_of name from until = (name, (view_moment from, (view_moment until, tt)))

abbrev pub view_own : OwnParts → ValueOf own_record
view_own p = own_parts_of p.name.now p.from p.until
