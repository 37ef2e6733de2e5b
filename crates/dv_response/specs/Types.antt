-- The types of a certificate of service (RFC 3029 9), one line each, in the profile of this project:
-- the tags of the first ones, the order of their fields and their defaults are its own, after that standard. Tags are implicit.
use Rattle.std.specs.Prelude.{ℕ, Bool, true, false, List}
use Rattle.dv_schema.specs.Schema.{Schema, node, raw, choice, Body, done, field, optional}
use Rattle.dv_schema.specs.Types.{free, list_of, primitive}
use Rattle.dv_time.specs.Types.{generalized_time}
use Rattle.dv_names.specs.Types.{digest_info, extensions_under, general_name, policy_information}
use Rattle.dv_status.specs.Types.{status_info}
use Rattle.dv_cms.specs.Types.{serial_number, signer_info}
use Rattle.dv_request.specs.Types.{request_information, target_chains}

-- ---- certificates of service

-- no octets
abbrev pub never : List ℕ → Bool
never octets = false

-- the version of a DVCSCertInfo: an INTEGER whose default is 1, and which is never another
abbrev pub version : Schema
version = primitive 2 never

-- DVCSCertInfo: SEQUENCE { version INTEGER default 1, dvReqInfo DVCSRequestInformation, messageImprint DigestInfo, serialNumber INTEGER,
-- responseTime GeneralizedTime, dvStatus PKIStatusInfo <A0> opt, policy PolicyInformation <A1> opt, reqSignature SET OF SignerInfo <A2>
-- opt, whose order isn't compared, certs SEQUENCE OF TargetEtcChain <A3> opt, at least one, extensions Extensions opt }
abbrev pub cert_info_fields : Body
cert_info_fields =
    optional version (field request_information (field digest_info (field serial_number (field generalized_time (optional (status_info 160)
    (optional (policy_information 161) (optional (list_of 162 false signer_info) (optional (target_chains 163) (optional (extensions_under 48 free) done)))))))))

abbrev pub cert_info : Schema
cert_info = node 48 cert_info_fields

-- DVCSErrorNotice: SEQUENCE { transactionStatus PKIStatusInfo, transactionIdentifier GeneralName opt }, under this tag; the last one is
-- kept as the whole value
abbrev pub error_fields : Body
error_fields = field (status_info 48) (optional (raw general_name) done)

abbrev pub error_notice : ℕ → Schema
error_notice tag = node tag error_fields

-- DVCSResponse: CHOICE { dvCertInfo DVCSCertInfo, dvErrorNote DVCSErrorNotice <A0> }
abbrev pub response : Schema
response = choice cert_info (error_notice 160)
