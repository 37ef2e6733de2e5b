-- A request that is about to be written, as a value of its schema.
use Rattle.std.specs.Prelude.{ℕ, List}
use Rattle.std.specs.Option.{option_copied}
use Rattle.dv_schema.specs.Schema.{ValueOf}
use Rattle.dv_request.specs.declared.make.Draft.{Draft}
use Rattle.dv_request.specs.Made.{information_of, request_from, request_of}
use Rattle.dv_request.specs.Materials.{data_of}
use Rattle.dv_request.specs.Types.{dvcs_request, request_information}

-- its information
abbrev pub view_head : Draft → ValueOf request_information
view_head d = information_of d.service (option_copied d.nonce) d.at

-- the whole of it
abbrev pub view_draft : Draft → ValueOf dvcs_request
view_draft d = request_from d.service (data_of d.material.now) (option_copied d.nonce) d.at

-- the message that holds it
abbrev pub message_from : Draft → List ℕ
message_from d = request_of d.service (data_of d.material.now) (option_copied d.nonce) d.at
