-- The DVCSCertInfo (RFC 3029 9.1) of a draft that has its serial number.
use Rattle.std.specs.Prelude.{ℕ, false, List, ◌++◌}
use Rattle.dv_schema.specs.Schema.{Schema, node, raw, Body, done, field, optional, ValueOf, contents, spelling}
use Rattle.dv_schema.specs.Tlv.{integer_octets}
use Rattle.dv_schema.specs.Types.{list_of}
use Rattle.dv_time.specs.Types.{generalized_time}
use Rattle.dv_request.specs.Types.{request_information, target_chains}
use Rattle.dv_cms.specs.Types.{serial_number, signer_info}
use Rattle.dv_draft.specs.Types.{draft, imprint, kept_policy, plain_status}

-- the fields of a draft, with the serial number at its place
abbrev pub numbered_fields : Body
numbered_fields =
    field (raw request_information) (field imprint (field serial_number (field generalized_time (optional plain_status (optional kept_policy
    (optional (list_of 162 false signer_info) (optional (target_chains 163) done)))))))

abbrev pub numbered : Schema
numbered = node 48 numbered_fields

-- the fields of a draft behind the place of the serial number
abbrev pub later_fields : Body
later_fields =
    field generalized_time (optional plain_status (optional kept_policy
    (optional (list_of 162 false signer_info) (optional (target_chains 163) done))))

-- the octets before the serial number: the request's information, and the imprint
abbrev pub before_serial : ValueOf draft → List ℕ
before_serial d = d.0 ++ spelling imprint d.1.0

-- the octets behind it: the time, and the status, the policy, the signers and the targets where they are there
abbrev pub after_serial : ValueOf draft → List ℕ
after_serial d = contents later_fields d.1.1

-- a draft with this serial number
abbrev pub with_serial : ℕ → ValueOf draft → ValueOf numbered
with_serial serial d = (d.0, (d.1.0, (integer_octets serial, d.1.1)))

-- the octets of the DVCSCertInfo
unfoldable pub cert_info_of : ℕ → ValueOf draft → List ℕ
cert_info_of serial d = spelling numbered (with_serial serial d)
