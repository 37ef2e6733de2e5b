-- The information of a request as a value of its schema.
use Rattle.dv_schema.specs.Schema.{ValueOf}
use Rattle.dv_request.specs.declared.info.RequestInfo.{RequestInfo}
use Rattle.dv_request.specs.Information.{information}
use Rattle.dv_request.specs.Types.{request_information}

-- a DVCSRequestInformation: its fields
abbrev pub view_info : RequestInfo → ValueOf request_information
view_info i = information i.version i.service i.nonce i.time i.requester i.policy i.dvcs i.locations i.extensions
