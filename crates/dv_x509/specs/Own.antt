-- The certificate that a register's holder issues to itself: a version 3 certificate of an HSS key, signed by that key, whose issuer and
-- subject are one common name. Its extensions are a critical keyUsage with digitalSignature and nonRepudiation, a critical extKeyUsage
-- with id-kp-dvcs, and a subjectKeyIdentifier that isn't critical, the first 20 octets of the SHA-256 digest of the key.
use Rattle.std.specs.Prelude.{ℕ, List, [], ◌∷◌, ◌++◌, Some, None, take}
use Rattle.sha2.specs.Sha256.{sha256}
use Rattle.dv_schema.specs.Tlv.{integer_octets, tlv}
use Rattle.dv_schema.specs.Schema.{ValueOf, spelling}
use Rattle.dv_schema.specs.Types.{bit_string}
use Rattle.dv_names.specs.declared.identifiers.TheConstants.{COMMON_NAME, EXTENDED_KEY_USAGE, ID_ALG_HSS_LMS_HASHSIG, ID_KP_DVCS, KEY_USAGE, SUBJECT_KEY_IDENTIFIER}
use Rattle.dv_names.specs.Types.{algorithm_identifier, extension, name}
use Rattle.dv_x509.specs.Fields.{validity_of}
use Rattle.dv_x509.specs.Types.{public_key_info, tbs_certificate}

-- HSS (RFC 9708 3), without parameters
abbrev pub own_algorithm : ValueOf algorithm_identifier
own_algorithm = (ID_ALG_HSS_LMS_HASHSIG, (None, tt))

-- a Name of one commonName, a UTF8String
abbrev pub own_name : List ℕ → ValueOf name
own_name text = tlv 48 (tlv 49 (tlv 48 (tlv 6 COMMON_NAME ++ tlv 12 text)))

-- the key, as the bits of a BIT STRING
abbrev pub own_key : List ℕ → ValueOf public_key_info
own_key key = (own_algorithm, (0 ∷ key, tt))

-- the first 20 octets of its digest
abbrev pub own_key_id : List ℕ → List ℕ
own_key_id key = take 20 (sha256 key)

-- keyUsage: 03 02 06 C0
abbrev pub usage_extension : ValueOf extension
usage_extension = (KEY_USAGE, (Some (255 ∷ []), (3 ∷ 2 ∷ 6 ∷ 192 ∷ [], tt)))

-- extKeyUsage: 30 0A 06 08 and the purpose
abbrev pub purpose_extension : ValueOf extension
purpose_extension = (EXTENDED_KEY_USAGE, (Some (255 ∷ []), (48 ∷ 10 ∷ 6 ∷ 8 ∷ ID_KP_DVCS, tt)))

-- subjectKeyIdentifier: 04 14 and the octets
abbrev pub key_id_extension : List ℕ → ValueOf extension
key_id_extension id = (SUBJECT_KEY_IDENTIFIER, (None, (4 ∷ 20 ∷ id, tt)))

-- the three, in this order
abbrev pub own_extensions : List ℕ → List ℕ
own_extensions id = spelling extension usage_extension ++ (spelling extension purpose_extension ++ spelling extension (key_id_extension id))

-- the signed part, for a name, two moments, a key, its identifier and a serial
abbrev pub own_fields_with : List ℕ → ℕ → ℕ → List ℕ → List ℕ → ℕ → ValueOf tbs_certificate
own_fields_with text from until key id serial = (
  Some (2 ∷ [], tt),
  (
    integer_octets serial,
    (
      own_algorithm,
      (
        own_name text,
        (
          validity_of from until,
          (
            own_name text,
            (
              own_key key,
              (None, (None, (Some (own_extensions id, tt), tt))),
            ),
          ),
        ),
      ),
    ),
  ),
)

-- the same, where the identifier is that of the key
abbrev pub own_fields : List ℕ → ℕ → ℕ → List ℕ → ℕ → ValueOf tbs_certificate
own_fields text from until key serial = own_fields_with text from until key (own_key_id key) serial

-- its octets
unfoldable pub OwnTbs : List ℕ → ℕ → ℕ → List ℕ → ℕ → List ℕ
OwnTbs text from until key serial = spelling tbs_certificate (own_fields text from until key serial)

-- the certificate of a signed part, with this signature
unfoldable pub OwnCertificate : List ℕ → List ℕ → List ℕ
OwnCertificate tbs signature = tlv 48 (tbs ++ (spelling algorithm_identifier own_algorithm ++ (spelling (bit_string 3) (0 ∷ signature) ++ [])))
