-- The certificate of service that a draft makes with its serial number.
use Rattle.std.specs.Prelude.{◌≡◌, ℕ, None, option_map}
use Rattle.dv_schema.specs.Schema.{ValueOf, contents, spelling}
use Rattle.dv_schema.specs.Tlv.{integer_octets}
use Rattle.dv_names.specs.Types.{policy_fields}
use Rattle.dv_request.specs.Types.{request_information}
use Rattle.dv_response.specs.Types.{cert_info}
use Rattle.dv_draft.specs.Types.{draft}

-- the certificate of service has this serial number and the fields of the draft, its default version and no extensions; the
-- draft keeps the request's information and the policy as octets
pub record Completes (serial : ℕ) (d : ValueOf draft) (v : ValueOf cert_info) : Type 0 where
  pub version : v.0 ≡ None
  pub information : spelling request_information v.1.0 ≡ d.0
  pub imprint : v.1.1.0 ≡ d.1.0
  pub serial_number : v.1.1.1.0 ≡ integer_octets serial
  pub time : v.1.1.1.1.0 ≡ d.1.1.0
  pub status : v.1.1.1.1.1.0 ≡ d.1.1.1.0
  pub policy : option_map (contents policy_fields) v.1.1.1.1.1.1.0 ≡ d.1.1.1.1.0
  pub signers : v.1.1.1.1.1.1.1.0 ≡ d.1.1.1.1.1.0
  pub certs : v.1.1.1.1.1.1.1.1.0 ≡ d.1.1.1.1.1.1.0
  pub extensions : v.1.1.1.1.1.1.1.1.1.0 ≡ None
