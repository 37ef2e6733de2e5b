-- The certificates of a document (RFC 5652 5.1), and why they aren't read.
use Rattle.std.specs.Prelude.{◌≡◌, ◌≤◌, ◌<◌, ℕ, List, length, map, slice_get, take, Some, Err, All}
use Rattle.dv_schema.specs.Schema.{FieldsOf, ValueOf}
use Rattle.dv_cms.specs.Types.{signed_data}
use Rattle.dv_x509.specs.declared.fault.X509.{X509}
use Rattle.dv_x509.specs.Judged.{certificate_in}
use Rattle.dv_x509.specs.Types.{certificate_fields}
use Rattle.dv_draft.specs.Records.{IsCertificate}
use Rattle.dv_path.specs.Members.{member_of}
use Rattle.dv_signed.specs.Certificates.{certificates_of}
use Rattle.dv_svc_document.specs.declared.fault.DocumentBag.{DocumentBag}
use Rattle.dv_svc_document.specs.declared.fault.DocumentBag.TheVariants.{TooMany, Bad, Memory}

-- There are at most 16, and each of them is a certificate (RFC 5280 4.1) under tag 30.
pub record AreRead (certificates : List (List ℕ)) : Type 0 where
  pub few : length certificates ≤ 16
  pub decoded : All IsCertificate certificates

-- the certificates of a document, among which its signers name theirs and paths are searched
abbrev pub bag_of : ValueOf signed_data → List (FieldsOf certificate_fields)
bag_of document = map (member_of 48) (certificates_of document)

-- The first of them that isn't a certificate stands at this position, for this cause.
pub record IsFirstBad (certificates : List (List ℕ)) (position : ℕ) (cause : X509) : Type 0 where
  pub octets : List ℕ
  pub is : slice_get certificates position ≡ Some octets
  pub bad : certificate_in 48 octets ≡ Err cause
  pub before : All IsCertificate (take position certificates)

-- What a fault says of them: there are more than 16, or not so many and this is the first that isn't one. A want of memory says nothing.
abbrev pub IsBagCause : List (List ℕ) → DocumentBag → Type 0
IsBagCause certificates TooMany = 16 < length certificates
IsBagCause certificates (Bad index fault) = (length certificates ≤ 16) × IsFirstBad certificates index fault
IsBagCause certificates Memory = Unit {0}

-- what a fault says of the one at an index, whose octets are these
abbrev pub IsBadAt : ℕ → List ℕ → DocumentBag → Type 0
IsBadAt i octets TooMany = ⊥
IsBadAt i octets (Bad index fault) = (index ≡ i) × (certificate_in 48 octets ≡ Err fault)
IsBadAt i octets Memory = Unit {0}
