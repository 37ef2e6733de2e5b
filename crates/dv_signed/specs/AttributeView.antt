-- An attribute as a value of its schema.
use Rattle.dv_schema.specs.Schema.{ValueOf}
use Rattle.dv_cms.specs.Types.{attribute}
use Rattle.dv_signed.specs.declared.attributes.Attribute.{Attribute}

-- an attribute: its type, and the contents octets of its values
abbrev pub view_attribute : Attribute → ValueOf attribute
view_attribute a = (a.oid.now, (a.values.now, tt))
