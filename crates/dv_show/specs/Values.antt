-- What the values in a file are.
use Rattle.std.specs.Prelude.{◌≡◌, ◌-◌, ◌<◌, ◌≤◌, ℕ, Bool, true, false, List, Option, Some, None, IsSomeAnd, IsTrue}
use Rattle.std.specs.Int.{bit_at}
use Rattle.dv_schema.specs.Schema.{spelling, ValueOf}
use Rattle.dv_schema.specs.Fits.{Fits}
use Rattle.dv_names.specs.declared.identifiers.TheConstants.{ID_CT_DVCS_RESPONSE_DATA}
use Rattle.dv_status.specs.Fail.{fail_bits}
use Rattle.dv_cms.specs.Types.{content_info, signed_data, signed_data_type}
use Rattle.dv_request.specs.declared.service.Service.{Service}
use Rattle.dv_request.specs.Information.{number_of}
use Rattle.dv_request.specs.Request.{request_data_type}
use Rattle.dv_request.specs.Types.{dvcs_request}
use Rattle.dv_response.specs.declared.cert_info.CertInfo.{CertInfo}
use Rattle.dv_response.specs.Types.{cert_info, error_notice}
use Rattle.dv_response.specs.Views.{view_cert_info}
use Rattle.dv_signed.specs.Fields.{content_of, content_type_of}
use Rattle.dv_show.specs.declared.shown.ContentType.{ContentType}
use Rattle.dv_show.specs.declared.shown.ContentType.TheVariants.{RequestData, ResponseData}
use Rattle.dv_show.specs.declared.shown.Shown.{Shown}
use Rattle.dv_show.specs.declared.shown.Shown.TheVariants.{Request, Notice, Certificate}

-- ---- what octets of a content type are

-- The octets are a DVCSRequest (RFC 3029 8) that names this service.
pub record IsRequest (service : Service) (octets : List ℕ) : Type 0 where
  pub request : ValueOf dvcs_request
  pub fits : Fits dvcs_request 30 request
  pub spelled : octets ≡ spelling dvcs_request request
  pub names : request.0.1.0 ≡ number_of service

-- the failure bit is set in these contents of a failInfo, where there is one (RFC 4210 5.2.3)
abbrev pub IsSet : Option (List ℕ) → ℕ → Type 0
IsSet fail bit = IsSomeAnd fail (λ contents. (bit ≤ 31) × (bit_at (fail_bits contents) (31 - bit) ≡ 1))

-- that is the least failure bit that is set, or none is
abbrev pub IsLeast : Option (List ℕ) → Option ℕ → Type 0
IsLeast fail (Some bit) = IsSet fail bit × ((lower : ℕ) → lower < bit → ¬ IsSet fail lower)
IsLeast fail None = (bit : ℕ) → ¬ IsSet fail bit

-- The octets are a DVCSErrorNotice under the tag A0 (RFC 3029 9.2), with this least failure bit.
pub record IsNotice (least : Option ℕ) (octets : List ℕ) : Type 0 where
  pub notice : ValueOf (error_notice 160)
  pub fits : Fits (error_notice 160) 32 notice
  pub spelled : octets ≡ spelling (error_notice 160) notice
  pub names : IsLeast notice.0.1.1.0 least

-- the octets are this DVCSCertInfo (RFC 3029 9.1)
abbrev pub IsCertificate : CertInfo → List ℕ → Type 0
IsCertificate info octets = Fits cert_info 32 (view_cert_info info) × (octets ≡ spelling cert_info (view_cert_info info))

-- the octets are the value, in signed data or not: a certificate is signed, and a notice may be
abbrev pub IsContent : Shown → Bool → List ℕ → Type 0
IsContent (Request service in_signed) signed octets = (in_signed ≡ signed) × IsRequest service octets
IsContent (Notice least) signed octets = IsNotice least octets
IsContent (Certificate info) signed octets = IsTrue signed × IsCertificate info octets

-- the content type of a value
abbrev pub type_of : Shown → ContentType
type_of (Request service in_signed) = RequestData
type_of (Notice least) = ResponseData
type_of (Certificate info) = ResponseData

-- the contents octets of its identifier
abbrev pub identifier_of : ContentType → List ℕ
identifier_of RequestData = request_data_type
identifier_of ResponseData = ID_CT_DVCS_RESPONSE_DATA

-- ---- what holds them

-- The content is a SignedData (RFC 5652 5.1) whose content has this type and these octets.
pub record IsSigned (type octets content : List ℕ) : Type 0 where
  pub signed : ValueOf signed_data
  pub fits : Fits signed_data 32 signed
  pub spelled : content ≡ spelling signed_data signed
  pub names : content_type_of signed ≡ type
  pub holds : content_of signed ≡ Some octets

-- a message of this type and with this content holds octets of a content type: in signed data, or else as its own
abbrev pub Holds : Bool → (type octets : List ℕ) → (message_type content : List ℕ) → Type 0
Holds true type octets message_type content = (signed_data_type ≡ message_type) × IsSigned type octets content
Holds false type octets message_type content = (type ≡ message_type) × (octets ≡ content)

-- A message of this type and with this content holds the value.
pub record IsValueOf (value : Shown) (type content : List ℕ) : Type 0 where
  pub signed : Bool
  pub octets : List ℕ
  pub held : Holds signed (identifier_of (type_of value)) octets type content
  pub is : IsContent value signed octets

-- The octets are the value: a ContentInfo (RFC 5652 3) that holds it.
pub record IsShown (value : Shown) (octets : List ℕ) : Type 0 where
  pub type : List ℕ
  pub content : List ℕ
  pub fits : Fits content_info 32 (type, ((content, tt), tt))
  pub spelled : octets ≡ spelling content_info (type, ((content, tt), tt))
  pub holds : IsValueOf value type content
