-- How many octets values have beside what a line says of them.
use Rattle.std.proofs.Common.{◌≡◌, ◌+◌, ◌≤◌, ◌++◌, ◌∷◌, [], zero, suc, ℕ, length, arith, false, ltb, List, ap, subst, inl, inr}
use Rattle.std.specs.Prelude.{Option, Some, None, option_map}
use Rattle.std.proofs.lemmas.Bool.{cases_Bool}
use Rattle.std.proofs.lemmas.List.{append-nil, length-append}
use Rattle.dv_schema.specs.Octets.{IsBytes}
use Rattle.dv_schema.specs.Tlv.{length_octets, tlv}
use Rattle.dv_schema.specs.Schema.{Body, contents, done, field, optional, spelled_if, spelling, ValueOf}
use Rattle.dv_schema.specs.Types.{explicit, list_of, octet_string}
use Rattle.dv_names.specs.Types.{algorithm_identifier, digest_info}
use Rattle.dv_cms.specs.Types.{content_info, encapsulated, serial_number, signed_data, signed_fields, signed_version}
use Rattle.dv_request.specs.Types.{request_information}
use Rattle.dv_response.specs.Types.{cert_info, cert_info_fields, version}
use Rattle.dv_signed.specs.Fields.{content_of}

-- ---- one value

-- a value has at least two octets before its contents
length_some : (n : ℕ) → 1 ≤ length (length_octets n)
length_some n = elim (cases_Bool (ltb n 128)) [ inl t ↦ rw t (omega arith) | inr f ↦ rw f (omega arith) ]

header_short : (tag : ℕ) (c : List ℕ) → 2 + length c ≤ length (tlv tag c)
header_short tag c = omega (arith, length_some (length c), length-append (length_octets (length c)) c)

-- a message has at least six octets beside its type and its content
pub message_long : (type content : List ℕ) → 6 + length type + length content ≤ length (spelling content_info (type, ((content, tt), tt)))
message_long type content =
    let tagged : List ℕ = tlv 160 (content ++ []) in
    let fields : List ℕ = tlv 6 type ++ (tagged ++ []) in
    omega (
      arith,
      header_short 48 fields,
      header_short 6 type,
      header_short 160 (content ++ []),
      ap length (append-nil content),
      ap length (append-nil tagged),
      length-append (tlv 6 type) (tagged ++ []),
    )

-- ---- octets

-- what stands in octets are octets
pub bytes_left : (a b : List ℕ) → IsBytes (a ++ b) → IsBytes a
bytes_left [] b h i = omega arith
bytes_left (x ∷ a) b h zero = h 0
bytes_left (x ∷ a) b h (suc i) = bytes_left a b (λ j. h (suc j)) i

pub bytes_right : (a b : List ℕ) → IsBytes (a ++ b) → IsBytes b
bytes_right [] b h = h
bytes_right (x ∷ a) b h = bytes_right a b (λ j. h (suc j))

bytes_inside : (tag : ℕ) (c : List ℕ) → IsBytes (tlv tag c) → IsBytes c
bytes_inside tag c h = bytes_right (tag ∷ length_octets (length c)) c h

-- the content of a message
pub bytes_of_message : (type content : List ℕ) → IsBytes (spelling content_info (type, ((content, tt), tt))) → IsBytes content
bytes_of_message type content h =
    let tagged : List ℕ = tlv 160 (content ++ []) in
    let fields = bytes_inside 48 (tlv 6 type ++ (tagged ++ [])) h in
    bytes_left content [] (bytes_inside 160 (content ++ []) (bytes_left tagged [] (bytes_right (tlv 6 type) (tagged ++ []) fields)))

-- what stands behind the first field
abbrev behind : Body → Body
behind (field s b) = b
behind (optional s b) = b
behind _ = done

-- ---- certificates of service

-- what stands behind the serial number
abbrev behind_serial : Body
behind_serial = behind (behind (behind (behind cert_info_fields)))

-- an imprint has at least eight octets beside its identifier and its digest
imprint_long : (v : ValueOf digest_info) → 8 + length v.0.0 + length v.1.0 ≤ length (spelling digest_info v)
imprint_long v =
    let params : List ℕ = spelled_if (λ (o : List ℕ). o) v.0.1.0 ++ [] in
    let fields : List ℕ = tlv 6 v.0.0 ++ params in
    let digest : List ℕ = tlv 4 v.1.0 ++ [] in
    omega (
      arith,
      header_short 48 (tlv 48 fields ++ digest),
      header_short 48 fields,
      header_short 6 v.0.0,
      header_short 4 v.1.0,
      ap length (append-nil (tlv 4 v.1.0)),
      length-append (tlv 6 v.0.0) params,
      length-append (tlv 48 fields) digest,
    )

bytes_of_imprint : (v : ValueOf digest_info) → IsBytes (spelling digest_info v) → IsBytes v.0.0
bytes_of_imprint v h =
    let params : List ℕ = spelled_if (λ (o : List ℕ). o) v.0.1.0 ++ [] in
    let fields : List ℕ = tlv 6 v.0.0 ++ params in
    let digest : List ℕ = tlv 4 v.1.0 ++ [] in
    bytes_inside 6 v.0.0 (bytes_left (tlv 6 v.0.0) params (bytes_inside 48 fields (bytes_left (tlv 48 fields) digest (bytes_inside 48 (tlv 48 fields ++ digest) h))))

-- a certificate of service has at least twelve octets beside the identifier and the digest of its imprint, and its serial number
pub certificate_long : (v : ValueOf cert_info) → 12 + length v.1.1.0.0.0 + length v.1.1.0.1.0 + length v.1.1.1.0 ≤ length (spelling cert_info v)
certificate_long v =
    let front : List ℕ = spelled_if (spelling version) v.0 in
    let info : List ℕ = spelling request_information v.1.0 in
    let imprint : List ℕ = spelling digest_info v.1.1.0 in
    let serial : List ℕ = spelling serial_number v.1.1.1.0 in
    let more : List ℕ = contents behind_serial v.1.1.1.1 in
    omega (
      arith,
      header_short 48 (front ++ (info ++ (imprint ++ (serial ++ more)))),
      header_short 2 v.1.1.1.0,
      imprint_long v.1.1.0,
      length-append front (info ++ (imprint ++ (serial ++ more))),
      length-append info (imprint ++ (serial ++ more)),
      length-append imprint (serial ++ more),
      length-append serial more,
    )

pub bytes_of_certificate : (v : ValueOf cert_info) → IsBytes (spelling cert_info v) → IsBytes v.1.1.0.0.0
bytes_of_certificate v h =
    let front : List ℕ = spelled_if (spelling version) v.0 in
    let info : List ℕ = spelling request_information v.1.0 in
    let imprint : List ℕ = spelling digest_info v.1.1.0 in
    let more : List ℕ = contents (field serial_number behind_serial) v.1.1.1 in
    bytes_of_imprint v.1.1.0
    (bytes_left imprint more (bytes_right info (imprint ++ more) (bytes_right front (info ++ (imprint ++ more)) (bytes_inside 48 (front ++ (info ++ (imprint ++ more))) h))))

-- ---- signed data

-- what stands behind the encapContentInfo
abbrev behind_content : Body
behind_content = behind (behind (behind signed_fields))

-- its content has no more octets, and they are octets
pub content_inside : (v : ValueOf signed_data) (octets : List ℕ) → content_of v ≡ Some octets → (length octets ≤ length (spelling signed_data v)) × (IsBytes (spelling signed_data v) → IsBytes octets)
content_inside v octets is =
    let front : List ℕ = spelling signed_version v.0 in
    let digests : List ℕ = spelling (list_of 49 false algorithm_identifier) v.1.0 in
    let encap : List ℕ = spelling encapsulated v.1.1.0 in
    let more : List ℕ = contents behind_content v.1.1.1 in
    let held = in_encap v.1.1.0.0 v.1.1.0.1.0 is in (
      omega (
        arith,
        header_short 48 (front ++ (digests ++ (encap ++ more))),
        held.0,
        length-append front (digests ++ (encap ++ more)),
        length-append digests (encap ++ more),
        length-append encap more,
      ),
      λ h. held.1 (bytes_left encap more (bytes_right digests (encap ++ more) (bytes_right front (digests ++ (encap ++ more)) (bytes_inside 48 (front ++ (digests ++ (encap ++ more))) h)))),
    )
  where
    in_encap : (type : List ℕ) (c : Option (ValueOf (explicit 160 octet_string))) → option_map (λ x. x.0) c ≡ Some octets
        → (length octets ≤ length (spelling encapsulated (type, (c, tt)))) × (IsBytes (spelling encapsulated (type, (c, tt))) → IsBytes octets)
    in_encap type None e = absurd cc
    in_encap type (Some c) e =
        let same : c.0 ≡ octets = cc in
        let string : List ℕ = tlv 4 c.0 ++ [] in
        let tagged : List ℕ = tlv 160 string ++ [] in
        let fields : List ℕ = tlv 6 type ++ tagged in (
          omega (
            arith,
            ap length same,
            header_short 48 fields,
            header_short 160 string,
            header_short 4 c.0,
            ap length (append-nil (tlv 4 c.0)),
            ap length (append-nil (tlv 160 string)),
            length-append (tlv 6 type) tagged,
          ),
          λ h. subst IsBytes same (bytes_inside 4 c.0 (bytes_left (tlv 4 c.0) [] (bytes_inside 160 string (bytes_left (tlv 160 string) [] (bytes_right (tlv 6 type) tagged (bytes_inside 48 fields h)))))),
        )
