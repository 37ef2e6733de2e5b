-- Where the content of a SignedData stands in its octets: how many octets stand before it.
use Rattle.std.specs.Prelude.{ℕ, false, ◌+◌, List, ◌∷◌, length, Option, option_map}
use Rattle.dv_schema.specs.Schema.{ValueOf, contents, field, optional, done, spelling}
use Rattle.dv_schema.specs.Tlv.{length_octets, tlv}
use Rattle.dv_schema.specs.Types.{explicit, list_of, octet_string, oid}
use Rattle.dv_names.specs.Types.{algorithm_identifier}
use Rattle.dv_cms.specs.Types.{encapsulated, signed_data, signed_fields, signed_version}
use Rattle.dv_signed.specs.Fields.{content_of, content_type_of}

-- how many octets the tag and the length of a value have whose contents are so long
abbrev pub header_size : ℕ → ℕ
header_size n = length (48 ∷ length_octets n)

-- before the encapContentInfo: the header, the version and the digest algorithms
abbrev pub encap_place_of : ValueOf signed_data → ℕ
encap_place_of v =
    header_size (length (contents signed_fields v)) + length (spelling signed_version v.0) + length (spelling (list_of 49 false algorithm_identifier) v.1.0)

-- where the eContentType of an encapContentInfo at a place stands
abbrev pub type_place_at : ℕ → ValueOf encapsulated → ℕ
type_place_at place e = place + header_size (length (contents (field oid (optional (explicit 160 octet_string) done)) e))

-- before its eContentType
abbrev pub type_place_of : ValueOf signed_data → ℕ
type_place_of v = type_place_at (encap_place_of v) v.1.1.0

-- where the octets of a content under an explicit tag at a place stand: behind the header of that tag, and that of the OCTET STRING
abbrev pub octets_place_at : ℕ → Option (List ℕ) → Option ℕ
octets_place_at place content = option_map (λ c. place + header_size (length (tlv 4 c)) + header_size (length c)) content

-- before the octets of its content, where there is content: the identifier, the header of the explicit tag, and that of the OCTET STRING
abbrev pub content_place_of : ValueOf signed_data → Option ℕ
content_place_of v = octets_place_at (type_place_of v + length (tlv 6 (content_type_of v))) (content_of v)
