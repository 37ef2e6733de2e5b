-- Requests as values of their schemas.
use Rattle.std.specs.Option.{option_copied}
use Rattle.dv_schema.specs.Schema.{ValueOf}
use Rattle.dv_request.specs.declared.request.Request.{Request}
use Rattle.dv_request.specs.DataView.{view_data}
use Rattle.dv_request.specs.InfoView.{view_info}
use Rattle.dv_request.specs.Types.{dvcs_request}

-- a DVCSRequest: its information, its data, and its transaction identifier as a whole value
abbrev pub view_request : Request → ValueOf dvcs_request
view_request r = (view_info r.info, (view_data r.matter, (option_copied r.transaction, tt)))
