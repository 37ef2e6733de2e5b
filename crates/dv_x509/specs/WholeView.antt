-- A certificate that was read, before it is judged, as a value of its schema.
use Rattle.dv_schema.specs.Schema.{FieldsOf}
use Rattle.dv_x509.specs.declared.whole.Whole.{Whole}
use Rattle.dv_x509.specs.Fields.{certificate_of}
use Rattle.dv_x509.specs.TbsView.{view_tbs}
use Rattle.dv_x509.specs.Types.{certificate_fields}

-- its fields
abbrev pub view_whole : Whole → FieldsOf certificate_fields
view_whole w = certificate_of (view_tbs w.tbs) w.alg w.signature
