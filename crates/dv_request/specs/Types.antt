-- The types of a request (RFC 3029 7, 8), one line each, in the profile of this project: their tags, the order of their fields and
-- their defaults are its own, after that standard. Tags are implicit.
use Rattle.std.specs.Prelude.{ℕ, true, ◌&&◌, nat_le, List, [], ◌∷◌, Some}
use Rattle.dv_schema.specs.Schema.{Schema, node, whole, raw, choice, Body, unsigned, done, field, optional}
use Rattle.dv_schema.specs.Types.{but, flag, free, integer, list_of, number_to, octet_string}
use Rattle.dv_time.specs.Types.{generalized_time}
use Rattle.dv_names.specs.Types.{digest_info, extensions_under, general_name, general_names, policy_information}
use Rattle.dv_status.specs.Types.{status_info}

-- PathProcInput: SEQUENCE { acceptablePolicySet SEQUENCE OF PolicyInformation, at least one, inhibitPolicyMapping BOOLEAN default FALSE,
-- explicitPolicyReqd BOOLEAN <80> default FALSE, inhibitAnyPolicy BOOLEAN <81> default FALSE }, under this tag
abbrev pub path_fields : Body
path_fields = field (list_of 48 true (policy_information 48)) (optional (flag 1) (optional (flag 128) (optional (flag 129) done)))

abbrev pub path_input : ℕ → Schema
path_input tag = node tag path_fields

-- a certificate as it stands before it is looked at, a SEQUENCE of well-formed values under this tag, as its whole octets
abbrev pub whole_certificate : ℕ → Schema
whole_certificate tag = whole (Some (tag ∷ []))

-- the tags of the tokens that are kept as one well-formed value: a CertificateList under A4, and the others, which this profile names
-- by their tags alone
abbrev pub other_tags : List ℕ
other_tags = 164 ∷ 48 ∷ 129 ∷ 131 ∷ 133 ∷ 134 ∷ 135 ∷ 136 ∷ 161 ∷ 163 ∷ 165 ∷ 166 ∷ 167 ∷ 168 ∷ []

-- CertEtcToken: CHOICE { certificate Certificate <A0>, pkistatus PKIStatusInfo <A2>, crl CertificateList <A4>, other }
abbrev pub token : Schema
token = choice (whole_certificate 160) (choice (status_info 162) (whole (Some other_tags)))

-- TargetEtcChain: SEQUENCE { target CertEtcToken, chain SEQUENCE OF CertEtcToken opt, at least one, pathProcInput PathProcInput <A0> opt }
abbrev pub target_fields : Body
target_fields = field token (optional (list_of 48 true token) (optional (path_input 160) done))

abbrev pub target_chain : Schema
target_chain = node 48 target_fields

-- SEQUENCE OF TargetEtcChain, at least one, under this tag
abbrev pub target_chains : ℕ → Schema
target_chains tag = list_of tag true target_chain

-- Data: CHOICE { message OCTET STRING, messageImprint DigestInfo, certs SEQUENCE OF TargetEtcChain <A0>, at least one }; the last one is
-- kept as the whole value
abbrev pub data_of_request : Schema
data_of_request = choice octet_string (choice digest_info (raw (target_chains 160)))

-- the version of a request: an INTEGER from 0 to 255, whose default is 1
abbrev pub version : Schema
version = but (2 ∷ 1 ∷ 1 ∷ []) (number_to 2 255)

-- ServiceType: ENUMERATED, 1 to 4
abbrev pub service_type : Schema
service_type = node 10 (unsigned (λ n. nat_le 1 n && nat_le n 4))

-- Nonce: INTEGER of at most 64 octets, which may be negative
abbrev pub nonce : Schema
nonce = integer 64

-- DVCSTime: CHOICE { genTime GeneralizedTime, timeStampToken ContentInfo }; a token is kept as one well-formed SEQUENCE
abbrev pub request_time : Schema
request_time = choice generalized_time (whole (Some (48 ∷ [])))

-- DVCSRequestInformation: SEQUENCE { version INTEGER default 1, service ENUMERATED, nonce INTEGER opt, requestTime DVCSTime opt,
-- requester GeneralNames <A0> opt, requestPolicy PolicyInformation <A1> opt, dvcs GeneralNames <A2> opt,
-- dataLocations GeneralNames <A3> opt, extensions Extensions <A4> opt }
abbrev pub information_fields : Body
information_fields =
    optional version (field service_type (optional nonce (optional request_time (optional (general_names 160) (optional (policy_information 161)
    (optional (general_names 162) (optional (general_names 163) (optional (extensions_under 164 free) done))))))))

abbrev pub request_information : Schema
request_information = node 48 information_fields

-- DVCSRequest: SEQUENCE { requestInformation DVCSRequestInformation, data Data, transactionIdentifier GeneralName opt }; the last one is
-- kept as the whole value
abbrev pub request_fields : Body
request_fields = field request_information (field data_of_request (optional (raw general_name) done))

abbrev pub dvcs_request : Schema
dvcs_request = node 48 request_fields
