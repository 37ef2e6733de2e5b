-- The types of the code as values of their schemas.
use Rattle.dv_schema.specs.Schema.{ValueOf}
use Rattle.dv_response.specs.declared.cert_info.CertInfo.{CertInfo}
use Rattle.dv_response.specs.declared.response.Notice.{Notice}
use Rattle.dv_response.specs.Parts.{certified, refused}
use Rattle.dv_response.specs.Types.{cert_info, error_notice}

-- a DVCSCertInfo: its fields
abbrev pub view_cert_info : CertInfo → ValueOf cert_info
view_cert_info c = certified c.info c.imprint c.serial c.time c.status c.policy c.req_signature c.certs c.extensions

-- a DVCSErrorNotice: its status, and its transaction identifier as a whole value
abbrev pub view_notice : Notice → ValueOf (error_notice 160)
view_notice n = refused n.status n.transaction
