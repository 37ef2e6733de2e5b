-- The types of certificates of keys (RFC 5280 4.1, 4.2), one line each.
use Rattle.std.specs.Prelude.{ℕ, Bool, true, ◌&&◌, ◌==◌, nat_lt, List, [], ◌∷◌, Some, if◌then◌else◌}
use Rattle.dv_schema.specs.Rules.{first_or, is_integer, is_oid}
use Rattle.dv_schema.specs.Schema.{Schema, node, whole, Body, kept, done, field, optional, keyed}
use Rattle.dv_schema.specs.Types.{bit_string, explicit, flag, free, integer, is_not, list_of, octet_string, oid, primitive}
use Rattle.dv_time.specs.Types.{time}
use Rattle.dv_names.specs.declared.identifiers.TheConstants.{AUTHORITY_KEY_IDENTIFIER, BASIC_CONSTRAINTS, CERTIFICATE_POLICIES, EXTENDED_KEY_USAGE, KEY_USAGE, SUBJECT_KEY_IDENTIFIER}
use Rattle.dv_names.specs.Types.{algorithm_identifier, extensions_under, name, policy_information}

-- ---- the contents of the extensions that are known

-- KeyUsage (RFC 5280 4.2.1.3): BIT STRING; zero bits at its end are accepted
abbrev pub key_usage : Schema
key_usage = bit_string 3

-- ExtKeyUsageSyntax (RFC 5280 4.2.1.12): SEQUENCE OF KeyPurposeId, at least one
abbrev pub purposes : Schema
purposes = list_of 48 true oid

-- the contents of an INTEGER that isn't negative, of any number of octets
abbrev pub is_bound : List ℕ → Bool
is_bound c = is_integer c && nat_lt (first_or c) 128

-- BasicConstraints (RFC 5280 4.2.1.9): SEQUENCE { cA BOOLEAN default FALSE, pathLenConstraint INTEGER opt }
abbrev pub constraint_fields : Body
constraint_fields = optional (flag 1) (optional (primitive 2 is_bound) done)

abbrev pub basic_constraints : Schema
basic_constraints = node 48 constraint_fields

-- SubjectKeyIdentifier (RFC 5280 4.2.1.2): OCTET STRING
abbrev pub subject_key_identifier : Schema
subject_key_identifier = octet_string

-- AuthorityKeyIdentifier (RFC 5280 4.2.1.1): one well-formed SEQUENCE, which isn't looked into
abbrev pub authority_key_identifier : Schema
authority_key_identifier = whole (Some (48 ∷ []))

-- CertificatePolicies (RFC 5280 4.2.1.4): SEQUENCE OF PolicyInformation, at least one
abbrev pub certificate_policies : Schema
certificate_policies = list_of 48 true (policy_information 48)

-- the identifiers of the known extensions
abbrev pub known_identifiers : List (List ℕ)
known_identifiers = KEY_USAGE ∷ EXTENDED_KEY_USAGE ∷ BASIC_CONSTRAINTS ∷ SUBJECT_KEY_IDENTIFIER ∷ AUTHORITY_KEY_IDENTIFIER ∷ CERTIFICATE_POLICIES ∷ []

-- what an extension's value holds, by the place of its identifier among those: one value of its type, and any octets past the last place
abbrev pub known_contents : ℕ → Body
known_contents place =
    if place == 0 then field key_usage done else
    if place == 1 then field purposes done else
    if place == 2 then field basic_constraints done else
    if place == 3 then field subject_key_identifier done else
    if place == 4 then field authority_key_identifier done else
    if place == 5 then field certificate_policies done else free

-- the fields of an Extension (RFC 5280 4.2) whose value goes by its identifier
abbrev pub known_extension : Body
known_extension = keyed 6 is_oid known_identifiers (λ place. optional (flag 1) (field (node 4 (kept (known_contents place))) done))

-- ---- certificates

-- a version that is spelled out: an INTEGER other than the default 0, of any number of octets, which may be negative
abbrev pub is_stated_version : List ℕ → Bool
is_stated_version c = is_integer c && is_not (0 ∷ []) c

-- Version (RFC 5280 4.1.2.1): INTEGER <A0 explicit> default 0
abbrev pub version : Schema
version = explicit 160 (primitive 2 is_stated_version)

-- CertificateSerialNumber (RFC 5280 4.1.2.2): INTEGER of at most 20 octets, which may be negative
abbrev pub serial_number : Schema
serial_number = integer 20

-- Validity (RFC 5280 4.1.2.5): SEQUENCE { notBefore Time, notAfter Time }
abbrev pub validity : Schema
validity = node 48 (field time (field time done))

-- SubjectPublicKeyInfo (RFC 5280 4.1.2.7): SEQUENCE { algorithm AlgorithmIdentifier, subjectPublicKey BIT STRING }
abbrev pub public_key_info : Schema
public_key_info = node 48 (field algorithm_identifier (field (bit_string 3) done))

-- Extensions <A3 explicit>, at least one, no two with one identifier; they are kept as their octets
abbrev pub certificate_extensions : Schema
certificate_extensions = explicit 163 (extensions_under 48 known_extension)

-- TBSCertificate (RFC 5280 4.1.2): SEQUENCE { version INTEGER <A0 explicit> default 0, serialNumber INTEGER,
-- signature AlgorithmIdentifier, issuer Name, validity Validity, subject Name, subjectPublicKeyInfo SubjectPublicKeyInfo,
-- issuerUniqueID BIT STRING <81> opt, subjectUniqueID BIT STRING <82> opt, extensions Extensions <A3 explicit> opt }
abbrev pub tbs_fields : Body
tbs_fields =
    optional version (field serial_number (field algorithm_identifier (field name (field validity (field name (field public_key_info
    (optional (bit_string 129) (optional (bit_string 130) (optional certificate_extensions done)))))))))

abbrev pub tbs_certificate : Schema
tbs_certificate = node 48 tbs_fields

-- Certificate (RFC 5280 4.1.1): SEQUENCE { tbsCertificate TBSCertificate, signatureAlgorithm AlgorithmIdentifier,
-- signatureValue BIT STRING }, under this tag
abbrev pub certificate_fields : Body
certificate_fields = field tbs_certificate (field algorithm_identifier (field (bit_string 3) done))

abbrev pub certificate : ℕ → Schema
certificate tag = node tag certificate_fields
