-- A certificate of service: a DVCSCertInfo (RFC 3029 9.1) in a SignedData (RFC 5652 5) that the server signed, octet by octet.
use Rattle.std.specs.Prelude.{ℕ, List, [], ◌∷◌, ◌++◌, Result, Ok, Err, if◌then◌else◌}
use Rattle.std.specs.List.{concat}
use Rattle.sha2.specs.Sha256.{sha256}
use Rattle.dv_schema.specs.Octets.{is_less}
use Rattle.dv_schema.specs.Schema.{FieldsOf}
use Rattle.dv_schema.specs.Tlv.{integer_octets, tlv}
use Rattle.dv_names.specs.declared.identifiers.TheConstants.{CONTENT_TYPE, ID_ALG_HSS_LMS_HASHSIG, ID_CT_DVCS_RESPONSE_DATA, ID_SIGNED_DATA, MESSAGE_DIGEST, SHA_256, SIGNING_CERTIFICATE_V2}
use Rattle.dv_x509.specs.declared.fault.X509.{X509}
use Rattle.dv_x509.specs.Judged.{certificate_in}
use Rattle.dv_x509.specs.Types.{certificate_fields}

-- ---- the certificates

-- a list in ascending order (X.690 11.6), with one more at its place
abbrev pub inserted : List ℕ → List (List ℕ) → List (List ℕ)
inserted x [] = x ∷ []
inserted x (y ∷ ys) = if is_less y x then y ∷ inserted x ys else x ∷ y ∷ ys

-- a list in ascending order, with more inserted one after another
abbrev pub inserted_all : List (List ℕ) → List (List ℕ) → List (List ℕ)
inserted_all sorted [] = sorted
inserted_all sorted (x ∷ xs) = inserted_all (inserted x sorted) xs

-- the members of a SET OF, in ascending order
abbrev pub ascending : List (List ℕ) → List (List ℕ)
ascending xs = inserted_all [] xs

-- the server's own certificate, the first one
abbrev pub own_of : List (List ℕ) → List ℕ
own_of [] = []
own_of (x ∷ xs) = x

-- the issuer and the serial number of a certificate that was decoded
abbrev pub issuer_and_serial : Result (FieldsOf certificate_fields) X509 → List ℕ
issuer_and_serial (Ok v) = v.0.1.1.1.0 ++ tlv 2 v.0.1.0
issuer_and_serial (Err e) = []

-- the contents of the IssuerAndSerialNumber (RFC 5652 10.2.4) that names a certificate; none where the octets aren't one
unfoldable pub signer_of : List ℕ → List ℕ
signer_of own = issuer_and_serial (certificate_in 48 own)

-- ---- the signed attributes

-- contentType (RFC 5652 11.1): id-ct-DVCSResponseData
abbrev pub content_type_attribute : List ℕ
content_type_attribute = tlv 48 (tlv 6 CONTENT_TYPE ++ tlv 49 (tlv 6 ID_CT_DVCS_RESPONSE_DATA))

-- messageDigest (RFC 5652 11.2): this digest
abbrev pub message_digest_attribute : List ℕ → List ℕ
message_digest_attribute digest = tlv 48 (tlv 6 MESSAGE_DIGEST ++ tlv 49 (tlv 4 digest))

-- signingCertificateV2 (RFC 5035 3): one ESSCertIDv2, with this SHA-256 digest of the certificate alone
abbrev pub signing_certificate_attribute : List ℕ → List ℕ
signing_certificate_attribute digest = tlv 48 (tlv 6 SIGNING_CERTIFICATE_V2 ++ tlv 49 (tlv 48 (tlv 48 (tlv 48 (tlv 4 digest)))))

-- the three, for these digests of the content and of the certificate; they ascend
unfoldable pub attributes_with : List ℕ → List ℕ → List ℕ
attributes_with content own = content_type_attribute ++ (message_digest_attribute content ++ signing_certificate_attribute own)

-- the three, for the octets of a DVCSCertInfo and for the server's own certificate
abbrev pub attributes_of : List ℕ → List ℕ → List ℕ
attributes_of own info = attributes_with (sha256 info) (sha256 own)

-- the octets that are signed (RFC 5652 5.4): the attributes as a SET OF, 137 octets
unfoldable pub signed_by : List ℕ → List ℕ → List ℕ
signed_by own info = tlv 49 (attributes_of own info)

-- ---- the message

-- a DVCSCertInfo (RFC 3029 9.1): the octets before its serial number, this, and the octets behind it
unfoldable pub info_of : List ℕ → ℕ → List ℕ → List ℕ
info_of before serial after = tlv 48 (before ++ (tlv 2 (integer_octets serial) ++ after))

-- SHA-256 (RFC 5754 2.2), without parameters
abbrev pub digest_algorithm : List ℕ
digest_algorithm = tlv 48 (tlv 6 SHA_256)

-- HSS (RFC 9708 3), without parameters
abbrev pub signature_algorithm : List ℕ
signature_algorithm = tlv 48 (tlv 6 ID_ALG_HSS_LMS_HASHSIG)

-- EncapsulatedContentInfo (RFC 5652 5.2): the octets of a DVCSCertInfo as id-ct-DVCSResponseData
unfoldable pub content_of : List ℕ → List ℕ
content_of info = tlv 48 (tlv 6 ID_CT_DVCS_RESPONSE_DATA ++ tlv 160 (tlv 4 info))

-- the first fields of a SignerInfo (RFC 5652 5.3): version 1, the issuer and serial number of the signer, and SHA-256
unfoldable pub signer_front : List ℕ → List ℕ
signer_front signer = tlv 2 (1 ∷ []) ++ (tlv 48 signer ++ digest_algorithm)

-- its other fields: the signed attributes, HSS and the signature
unfoldable pub signer_back : List ℕ → List ℕ → List ℕ
signer_back attributes signature = tlv 160 attributes ++ (signature_algorithm ++ tlv 4 signature)

-- a SignerInfo
unfoldable pub signer_info_with : List ℕ → List ℕ → List ℕ → List ℕ
signer_info_with signer attributes signature = tlv 48 (signer_front signer ++ signer_back attributes signature)

-- the first fields of a SignedData (RFC 5652 5.1): version 3, the SET OF SHA-256 alone, and the content
unfoldable pub signed_front : List ℕ → List ℕ
signed_front info = tlv 2 (3 ∷ []) ++ (tlv 49 digest_algorithm ++ content_of info)

-- its other fields: the joined certificates, and one signer
unfoldable pub signed_back : List ℕ → List ℕ → List ℕ
signed_back certificates signer_info = tlv 160 certificates ++ tlv 49 signer_info

-- a SignedData
unfoldable pub signed_data_with : List ℕ → List ℕ → List ℕ → List ℕ
signed_data_with certificates info signer_info = tlv 48 (signed_front info ++ signed_back certificates signer_info)

-- the ContentInfo (RFC 5652 3) of type id-signedData that holds a SignedData
unfoldable pub message_with : List ℕ → List ℕ → List ℕ → List ℕ
message_with certificates info signer_info = tlv 48 (tlv 6 ID_SIGNED_DATA ++ tlv 160 (signed_data_with certificates info signer_info))

-- the message with these certificates, the server's own first among those given, over the octets of a DVCSCertInfo
unfoldable pub sealed : List (List ℕ) → List ℕ → List ℕ → List ℕ
sealed certificates info signature =
    message_with (concat (ascending certificates)) info
    (signer_info_with (signer_of (own_of certificates)) (attributes_of (own_of certificates) info) signature)
