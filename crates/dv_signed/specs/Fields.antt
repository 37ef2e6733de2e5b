-- The fields of a SignedData and of its signers as values of their schemas.
use Rattle.std.specs.Prelude.{ℕ, List, Option, option_map}
use Rattle.dv_schema.specs.Schema.{ValueOf}
use Rattle.dv_names.specs.Types.{algorithm_identifier}
use Rattle.dv_cms.specs.Types.{encapsulated, signed_data, signer_identifier, signer_info}

-- an EncapsulatedContentInfo of this type, with this content where there is content
abbrev pub encapsulated_with : List ℕ → Option (List ℕ) → ValueOf encapsulated
encapsulated_with type content = (type, (option_map (λ c. (c, tt)) content, tt))

-- a SignedData of these fields, in their order
abbrev pub signed_with : ℕ → List ℕ → List ℕ → Option (List ℕ) → Option (List ℕ) → Option (List ℕ) → List ℕ → ValueOf signed_data
signed_with version digests type content certificates lists signers =
    (version, (digests, (encapsulated_with type content, (certificates, (lists, (signers, tt))))))

-- a SignerInfo of these fields, in their order
abbrev pub signer_with : ℕ → ValueOf signer_identifier → ValueOf algorithm_identifier → Option (List ℕ) → ValueOf algorithm_identifier → List ℕ → Option (List ℕ) → ValueOf signer_info
signer_with version id digest attributes algorithm signature unsigned_attributes =
    (version, (id, (digest, (attributes, (algorithm, (signature, (unsigned_attributes, tt)))))))

-- ---- the fields of a SignedData

-- its eContentType, as the contents octets of an identifier
abbrev pub content_type_of : ValueOf signed_data → List ℕ
content_type_of v = v.1.1.0.0

-- the octets of its content, where there is content
abbrev pub content_of : ValueOf signed_data → Option (List ℕ)
content_of v = option_map (λ c. c.0) v.1.1.0.1.0

-- the contents octets of its certificates, where the set is there
abbrev pub certificate_set_of : ValueOf signed_data → Option (List ℕ)
certificate_set_of v = v.1.1.1.0

-- the contents octets of its signers
abbrev pub signer_set_of : ValueOf signed_data → List ℕ
signer_set_of v = v.1.1.1.1.1.0

-- ---- the fields of a SignerInfo

abbrev pub identifier_of : ValueOf signer_info → ValueOf signer_identifier
identifier_of s = s.1.0

abbrev pub digest_algorithm_of : ValueOf signer_info → ValueOf algorithm_identifier
digest_algorithm_of s = s.1.1.0

-- the contents octets of its signed attributes, where they are there
abbrev pub signed_attributes_of : ValueOf signer_info → Option (List ℕ)
signed_attributes_of s = s.1.1.1.0

abbrev pub signature_algorithm_of : ValueOf signer_info → ValueOf algorithm_identifier
signature_algorithm_of s = s.1.1.1.1.0

abbrev pub signature_of : ValueOf signer_info → List ℕ
signature_of s = s.1.1.1.1.1.0
