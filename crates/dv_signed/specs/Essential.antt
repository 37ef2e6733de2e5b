-- The certificate that a signer names among its signed attributes (RFC 5035).
use Rattle.std.specs.Prelude.{ℕ, Bool, true, false, List, [], ◌∷◌, Option, Some, None, Result, Ok, Err}
use Rattle.dv_schema.specs.declared.refusal.Der.{Der}
use Rattle.dv_schema.specs.Octets.{same_octets}
use Rattle.dv_schema.specs.Schema.{Schema, ValueOf, node, Body, done, field, optional, spelling}
use Rattle.dv_schema.specs.Types.{any, but, list_of, octet_string}
use Rattle.dv_schema.specs.Reading.{read_all}
use Rattle.dv_names.specs.declared.identifiers.TheConstants.{SHA_256}
use Rattle.dv_names.specs.declared.digest.DigestKind.{DigestKind}
use Rattle.dv_names.specs.declared.digest.DigestKind.TheVariants.{Sha256}
use Rattle.dv_names.specs.Digest.{kind_of}
use Rattle.dv_names.specs.Types.{algorithm_identifier}
use Rattle.dv_members.specs.Members.{front_of, values_in}
use Rattle.dv_signed.specs.Kinds.{digest_by}

-- the AlgorithmIdentifier of SHA-256 without parameters, the default of a hashAlgorithm
abbrev pub sha256_octets : List ℕ
sha256_octets = spelling algorithm_identifier (SHA_256, (None, tt))

-- ESSCertIDv2 (RFC 5035 4): SEQUENCE { hashAlgorithm AlgorithmIdentifier default SHA-256, certHash OCTET STRING, issuerSerial any opt }
abbrev pub certificate_id : Schema
certificate_id = node 48 (optional (but sha256_octets algorithm_identifier) (field octet_string (optional any done)))

-- SigningCertificateV2 (RFC 5035 3): SEQUENCE { certs SEQUENCE OF ESSCertIDv2, at least one, policies any opt }
abbrev pub signing_certificate_fields : Body
signing_certificate_fields = field (list_of 48 true certificate_id) (optional any done)

abbrev pub signing_certificate : Schema
signing_certificate = node 48 signing_certificate_fields

-- the digest algorithm of a hashAlgorithm, where it is a known one; SHA-256 where it is absent
abbrev pub kind_or_default : Option (ValueOf algorithm_identifier) → Option DigestKind
kind_or_default None = Some Sha256
kind_or_default (Some algorithm) = kind_of algorithm

-- the hash is the digest of these octets by this algorithm, where it is a known one
abbrev pub is_digest_by : Option DigestKind → List ℕ → List ℕ → Bool
is_digest_by None octets hash = false
is_digest_by (Some kind) octets hash = same_octets (digest_by kind octets) hash

-- the first of the certificates that are named is this one, given by its whole octets
abbrev pub names_first : List ℕ → List (ValueOf certificate_id) → Bool
names_first certificate [] = false
names_first certificate (id ∷ ids) = is_digest_by (kind_or_default id.0) certificate id.1.0

abbrev names_if : List ℕ → Result (ValueOf signing_certificate) Der → Bool
names_if certificate (Ok v) = names_first certificate (values_in certificate_id v.0)
names_if certificate (Err d) = false

-- the octets are a SigningCertificateV2 whose first hash is by a known algorithm that of the certificate
unfoldable pub names_certificate : List ℕ → List ℕ → Bool
names_certificate certificate octets = names_if certificate (read_all signing_certificate (front_of octets))
