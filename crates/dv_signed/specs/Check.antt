-- Whether a signer signed a content with the key of a certificate (RFC 5652 5.4 to 5.6; RFC 9708 3).
use Rattle.std.specs.Prelude.{◌≡◌, ℕ, List, Option, Some, None, Result, Ok, Err, not, if◌then◌else◌}
use Rattle.dv_schema.specs.Schema.{ValueOf}
use Rattle.dv_schema.specs.Tlv.{tlv}
use Rattle.dv_lms.specs.Verifies.{Verifies}
use Rattle.dv_names.specs.declared.digest.DigestKind.{DigestKind}
use Rattle.dv_names.specs.Digest.{kind_of}
use Rattle.dv_x509.specs.Uses.{is_hss}
use Rattle.dv_cms.specs.Types.{signer_info}
use Rattle.dv_signed.specs.declared.fault.SignerFault.{SignerFault}
use Rattle.dv_signed.specs.declared.fault.SignerFault.TheVariants.{Algorithm, Attribute, Digest, Signature}
use Rattle.dv_signed.specs.Attributes.{are_right_in, has_digest_in}
use Rattle.dv_signed.specs.Fields.{digest_algorithm_of, signature_algorithm_of, signature_of, signed_attributes_of}

-- What a signer is checked against: the type and the octets of the content, the certificate that it is said to be, as its whole octets under
-- tag 30 (no octets where none is named), and the HSS key of that certificate.
pub record Signed : Type 0 where
  pub type : List ℕ
  pub content : List ℕ
  pub certificate : List ℕ
  pub key : Option (List ℕ)

-- the digest algorithm of a signer whose signature algorithm is HSS without parameters, where it is a known one
abbrev pub known_kind : ValueOf signer_info → Option DigestKind
known_kind s = if is_hss (signature_algorithm_of s) then kind_of (digest_algorithm_of s) else None

-- the first of the faults that stand before the signature: the attributes, and then the digest
abbrev pub fault_with : DigestKind → ValueOf signer_info → Signed → Option SignerFault
fault_with kind s x =
    if not (are_right_in x.type x.certificate (signed_attributes_of s)) then Some Attribute else
    if not (has_digest_in kind x.content (signed_attributes_of s)) then Some Digest else None

-- the same after the algorithms
abbrev fault_if : Option DigestKind → ValueOf signer_info → Signed → Option SignerFault
fault_if None s x = Some Algorithm
fault_if (Some kind) s x = fault_with kind s x

abbrev pub early_fault : ValueOf signer_info → Signed → Option SignerFault
early_fault s x = fault_if (known_kind s) s x

-- the octets that are signed: the attributes as a SET OF under its own tag, 31, and the content where there are none (RFC 5652 5.4)
abbrev pub signed_octets : Option (List ℕ) → List ℕ → List ℕ
signed_octets None content = content
signed_octets (Some attributes) content = tlv 49 attributes

-- the signature is one of these octets under the key
pub record Signs (s : ValueOf signer_info) (x : Signed) : Type 0 where
  pub key : List ℕ
  pub has_key : x.key ≡ Some key
  pub verifies : Verifies key (signed_octets (signed_attributes_of s) x.content) (signature_of s)

-- The fault of a signer is the first that holds: Algorithm, where one of its algorithms isn't known; Attribute, where its signed attributes aren't
-- right; Digest, where they don't have the digest of the content; Signature, where the signature isn't one under the key. None where none holds.
abbrev pub IsFault : ValueOf signer_info → Signed → Option SignerFault → Type 0
IsFault s x None = (early_fault s x ≡ None) × Signs s x
IsFault s x (Some Signature) = (early_fault s x ≡ None) × ¬ Signs s x
IsFault s x (Some Algorithm) = early_fault s x ≡ Some Algorithm
IsFault s x (Some Attribute) = early_fault s x ≡ Some Attribute
IsFault s x (Some Digest) = early_fault s x ≡ Some Digest

-- what a check answered
abbrev pub fault_in : Result (Unit {0}) SignerFault → Option SignerFault
fault_in (Ok u) = None
fault_in (Err fault) = Some fault
