-- The signed attributes of a signer (RFC 5652 5.3, 11; RFC 5035 3).
use Rattle.std.specs.Prelude.{◌≡◌, ℕ, Bool, true, false, ◌&&◌, List, [], ◌∷◌, length, map, Option, Some, None, Ok}
use Rattle.dv_schema.specs.Octets.{are_apart, same_octets}
use Rattle.dv_schema.specs.Schema.{ValueOf}
use Rattle.dv_schema.specs.Reading.{Spot, all_at, read}
use Rattle.dv_schema.specs.Tlv.{tlv}
use Rattle.dv_schema.specs.Types.{any}
use Rattle.dv_names.specs.declared.digest.DigestKind.{DigestKind}
use Rattle.dv_names.specs.declared.identifiers.TheConstants.{CONTENT_TYPE, ID_DATA, MESSAGE_DIGEST, SIGNING_CERTIFICATE_V2}
use Rattle.dv_members.specs.Members.{values_in}
use Rattle.dv_x509.specs.Uses.{first_named}
use Rattle.dv_cms.specs.Types.{attribute}
use Rattle.dv_signed.specs.Essential.{names_certificate}
use Rattle.dv_signed.specs.Kinds.{digest_by}

-- the type of an attribute, as the contents octets of an identifier
abbrev pub type_of : ValueOf attribute → List ℕ
type_of a = a.0

-- the values of an attribute, each as its whole octets
abbrev pub values_of : ValueOf attribute → List (List ℕ)
values_of a = values_in any a.1.0

abbrev values_if : Option (ValueOf attribute) → Option (List (List ℕ))
values_if None = None
values_if (Some a) = Some (values_of a)

-- the values of the attribute with this type, where it is there
abbrev pub values_under : List ℕ → List (ValueOf attribute) → Option (List (List ℕ))
values_under type attributes = values_if (first_named type_of type attributes)

-- the one value, where there is one
abbrev pub one_value : Option (List (List ℕ)) → Option (List ℕ)
one_value (Some (v ∷ [])) = Some v
one_value _ = None

-- the octets are these, where they are there
abbrev pub are_octets : Option (List ℕ) → List ℕ → Bool
are_octets None octets = false
are_octets (Some v) octets = same_octets v octets

-- contentType is there with one value, and that is the content type (RFC 5652 11.1)
abbrev pub has_content_type : List ℕ → List (ValueOf attribute) → Bool
has_content_type type attributes = are_octets (one_value (values_under CONTENT_TYPE attributes)) (tlv 6 type)

-- the one value of messageDigest, where it is there with one (RFC 5652 11.2)
abbrev pub message_digest_of : List (ValueOf attribute) → Option (List ℕ)
message_digest_of attributes = one_value (values_under MESSAGE_DIGEST attributes)

abbrev pub is_there : Option (List ℕ) → Bool
is_there None = false
is_there (Some v) = true

abbrev names_by : List ℕ → Option (List ℕ) → Bool
names_by certificate None = false
names_by certificate (Some v) = names_certificate certificate v

abbrev names_unless_absent : List ℕ → Option (List (List ℕ)) → Bool
names_unless_absent certificate None = true
names_unless_absent certificate (Some values) = names_by certificate (one_value (Some values))

-- signingCertificateV2 is absent, or has one value, whose first hash is that of the signer's certificate (RFC 5035 3)
abbrev pub names_its_certificate : List ℕ → List (ValueOf attribute) → Bool
names_its_certificate certificate attributes = names_unless_absent certificate (values_under SIGNING_CERTIFICATE_V2 attributes)

-- the attributes are as they must be: no type stands twice, and these three are right
abbrev pub are_right : List ℕ → List ℕ → List (ValueOf attribute) → Bool
are_right type certificate attributes =
    are_apart [] (map type_of attributes) && has_content_type type attributes && is_there (message_digest_of attributes) && names_its_certificate certificate attributes

-- the attributes in the contents octets of a set
abbrev pub attributes_in : List ℕ → List (ValueOf attribute)
attributes_in octets = values_in attribute octets

-- the same of the contents octets of the set, where it is there; without attributes only data are signed, of type id-data (RFC 5652 5.3)
abbrev pub are_right_in : List ℕ → List ℕ → Option (List ℕ) → Bool
are_right_in type certificate None = same_octets type ID_DATA
are_right_in type certificate (Some octets) = are_right type certificate (attributes_in octets)

-- the value of messageDigest is the OCTET STRING of the digest of the content; without attributes there is none
abbrev pub has_digest_in : DigestKind → List ℕ → Option (List ℕ) → Bool
has_digest_in kind content None = true
has_digest_in kind content (Some octets) = are_octets (message_digest_of (attributes_in octets)) (tlv 4 (digest_by kind content))

-- what is left are these attributes, one after another
abbrev pub AreAttributes : Spot → List (ValueOf attribute) → Type 0
AreAttributes p attributes = all_at (read attribute) (length p.rest) p ≡ Ok attributes
