-- The error notice of a server (RFC 3029, section 9.2), octet by octet.
use Rattle.std.specs.Prelude.{ℕ, ◌-◌, ◌/◌, ◌%◌, ◌^◌, List, [], ◌∷◌, ◌++◌, replicate}
use Rattle.dv_schema.specs.Tlv.{tlv, integer_octets}

-- the contents octets of id-ct-DVCSResponseData, 1.2.840.113549.1.9.16.1.8
abbrev pub response_data_type : List ℕ
response_data_type = 42 ∷ 134 ∷ 72 ∷ 134 ∷ 247 ∷ 13 ∷ 1 ∷ 9 ∷ 16 ∷ 1 ∷ 8 ∷ []

-- The contents of a BIT STRING with this one bit, counted from 0, and no bit behind it (X.690 8.6.2, 11.2): the number of
-- unused bits, the zero octets before the bit, and the octet with it.
abbrev pub one_bit : ℕ → List ℕ
one_bit bit = (7 - bit % 8) ∷ replicate (bit / 8) 0 ++ 2 ^ (7 - bit % 8) ∷ []

-- a PKIStatusInfo (RFC 4210, section 5.2.3) of status rejection, 2, with one failure bit and no text
unfoldable pub rejection_with : ℕ → List ℕ
rejection_with bit = tlv 48 (tlv 2 (integer_octets 2) ++ tlv 3 (one_bit bit))

-- A DVCSErrorNotice under the tag [0]: the status, and the request's transactionIdentifier, which has no octets where it is
-- absent.
unfoldable pub error_notice : List ℕ → ℕ → List ℕ
error_notice transaction bit = tlv 160 (rejection_with bit ++ transaction)

-- the ContentInfo (RFC 5652, section 3) of type id-ct-DVCSResponseData around the notice
unfoldable pub notice_of : List ℕ → ℕ → List ℕ
notice_of transaction bit = tlv 48 (tlv 6 response_data_type ++ tlv 160 (error_notice transaction bit))
