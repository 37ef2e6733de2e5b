-- The types of RFC 5652, one line each.
use Rattle.std.specs.Prelude.{ℕ, true, false, ◌+◌, ◌==◌, ◌||◌, ◌&&◌, nat_le, List, [], ◌∷◌, ◌++◌, length, Some}
use Rattle.dv_schema.specs.Rules.{any_octets}
use Rattle.dv_schema.specs.Tlv.{tlv, length_octets}
use Rattle.dv_schema.specs.Schema.{Schema, node, whole, choice, Body, unsigned, done, field, optional}
use Rattle.dv_schema.specs.Types.{explicit, any, integer, list_of, octet_string, oid, ordered_of, primitive}
use Rattle.dv_names.specs.Types.{algorithm_identifier, name}

-- the contents octets of id-signedData, 1.2.840.113549.1.7.2 (RFC 5652 5.1)
abbrev pub signed_data_type : List ℕ
signed_data_type = 42 ∷ 134 ∷ 72 ∷ 134 ∷ 247 ∷ 13 ∷ 1 ∷ 7 ∷ 2 ∷ []

-- ContentInfo (RFC 5652 3): SEQUENCE { contentType OID, content any <A0 explicit> }
abbrev pub content_info : Schema
content_info = node 48 (field oid (field (explicit 160 any) done))

-- the octets of a ContentInfo of this type that stand before a content of n octets
unfoldable pub content_header : List ℕ → ℕ → List ℕ
content_header type n =
    48 ∷ length_octets (length (tlv 6 type) + (1 + length (length_octets n) + n)) ++ tlv 6 type ++ 160 ∷ length_octets n

-- ---- signers

-- the serial number of a certificate: an INTEGER of at most 20 octets, which may be negative
abbrev pub serial_number : Schema
serial_number = integer 20

-- the version of a SignerInfo: an INTEGER, 1 or 3
abbrev pub signer_version : Schema
signer_version = node 2 (unsigned (λ n. (n == 1) || (n == 3)))

-- IssuerAndSerialNumber (RFC 5652 10.2.4): SEQUENCE { issuer Name, serialNumber INTEGER }
abbrev pub issuer_and_serial : Schema
issuer_and_serial = node 48 (field name (field serial_number done))

-- SignerIdentifier: CHOICE { issuerAndSerialNumber IssuerAndSerialNumber, subjectKeyIdentifier OCTET STRING <80> }
abbrev pub signer_identifier : Schema
signer_identifier = choice issuer_and_serial (primitive 128 any_octets)

-- Attribute (RFC 5652 5.3): SEQUENCE { type OID, values SET OF any }
abbrev pub attribute : Schema
attribute = node 48 (field oid (field (ordered_of 49 false any) done))

-- SignerInfo: SEQUENCE { version INTEGER 1 or 3, sid SignerIdentifier, digestAlgorithm AlgorithmIdentifier,
-- signedAttrs SET OF Attribute <A0> opt, at least one, signatureAlgorithm AlgorithmIdentifier, signature OCTET STRING,
-- unsignedAttrs SET OF Attribute <A1> opt }
abbrev pub signer_fields : Body
signer_fields =
    field signer_version (field signer_identifier (field algorithm_identifier (optional (ordered_of 160 true attribute)
    (field algorithm_identifier (field octet_string (optional (ordered_of 161 false attribute) done))))))

abbrev pub signer_info : Schema
signer_info = node 48 signer_fields

-- ---- signed data

-- the version of a SignedData: an INTEGER, 1 to 5
abbrev pub signed_version : Schema
signed_version = node 2 (unsigned (λ n. nat_le 1 n && nat_le n 5))

-- EncapsulatedContentInfo (RFC 5652 5.2): SEQUENCE { eContentType OID, eContent OCTET STRING <A0 explicit> opt }
abbrev pub encapsulated : Schema
encapsulated = node 48 (field oid (optional (explicit 160 octet_string) done))

-- CertificateChoices (RFC 5652 10.2.2): a Certificate, or one of the forms that aren't read; one well-formed value
abbrev pub certificate_choice : Schema
certificate_choice = whole (Some (48 ∷ 160 ∷ 161 ∷ 162 ∷ 163 ∷ []))

-- SignedData (RFC 5652 5.1): SEQUENCE { version INTEGER 1 to 5, digestAlgorithms SET OF AlgorithmIdentifier, encapContentInfo
-- EncapsulatedContentInfo, certificates SET OF CertificateChoices <A0> opt, crls SET OF any <A1> opt, signerInfos SET OF SignerInfo };
-- the order within these sets isn't compared
abbrev pub signed_fields : Body
signed_fields =
    field signed_version (field (list_of 49 false algorithm_identifier) (field encapsulated (optional (list_of 160 false certificate_choice)
    (optional (list_of 161 false any) (field (list_of 49 false signer_info) done)))))

abbrev pub signed_data : Schema
signed_data = node 48 signed_fields
