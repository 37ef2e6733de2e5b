-- Which octets are a request's message, and what its fields say.
use Rattle.std.specs.Prelude.{◌≡◌, ℕ, Bool, true, false, ◌==◌, ◌||◌, List, Option, Some, None, unwrap_or}
use Rattle.std.proofs.Common.{inl, inr}
use Rattle.dv_schema.specs.Schema.{ValueOf, spelling}
use Rattle.dv_schema.specs.Fits.{Fits}
use Rattle.dv_cms.specs.Types.{content_info, signed_data}
use Rattle.dv_signed.specs.Fields.{content_of, content_type_of}
use Rattle.dv_signed.specs.Messages.{IsSignedMessage}
use Rattle.dv_request.specs.Request.{request_data_type}
use Rattle.dv_request.specs.Types.{data_of_request, dvcs_request, request_time}
use Rattle.dv_svc_document.specs.Documents.{IsReadable}

-- The octets are a ContentInfo of this type and with this content, any well-formed value.
abbrev pub IsInfoOf : List ℕ → List ℕ → List ℕ → Type 0
IsInfoOf type content octets = Fits content_info 32 (type, ((content, tt), tt)) × (octets ≡ spelling content_info (type, ((content, tt), tt)))

-- The SignedData is that of a request: it is read, as a document that is to be validated is, its content type is id-ct-DVCSRequestData, and
-- it has this content.
pub record IsSignedContent (document : ValueOf signed_data) (content : List ℕ) : Type 0 where
  pub readable : IsReadable document
  pub of_type : content_type_of document ≡ request_data_type
  pub holds : content_of document ≡ Some content

-- The octets are a message with this content (RFC 3029 8): unsigned, a ContentInfo of type id-ct-DVCSRequestData; or signed, one of type
-- id-signedData with this SignedData, which is that of a request.
abbrev pub IsMessageOf : Option (ValueOf signed_data) → List ℕ → List ℕ → Type 0
IsMessageOf None content octets = IsInfoOf request_data_type content octets
IsMessageOf (Some document) content octets = IsSignedMessage document octets × IsSignedContent document content

-- They are a message with this request, whose outermost value stands at depth 3, signed or not.
abbrev pub IsRequestMessage : Option (ValueOf signed_data) → ValueOf dvcs_request → List ℕ → Type 0
IsRequestMessage document v octets = Fits dvcs_request 30 v × IsMessageOf document (spelling dvcs_request v) octets

-- the version of a request, which is 1 where none is written
abbrev pub version_of : ValueOf dvcs_request → ℕ
version_of v = unwrap_or v.0.0 1

-- Whether a service takes such data (RFC 3029, section 7): possession of data, 1, and validation of a document, 2, take a message;
-- validation of certificates, 3, takes targets; a claim of possession, 4, takes a digest.
abbrev pub takes : ℕ → ValueOf data_of_request → Bool
takes service (inl message) = service == 1 || service == 2
takes service (inr (inl imprint)) = service == 4
takes service (inr (inr targets)) = service == 3

-- its time is a token
abbrev pub is_token : Option (ValueOf request_time) → Bool
is_token (Some (inr token)) = true
is_token _ = false
