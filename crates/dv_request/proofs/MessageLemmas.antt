-- The ContentInfo of a request that is made.
use Rattle.std.proofs.Common.{◌≡◌, ◌≤◌, ◌<◌, ◌+◌, ◌++◌, ◌∷◌, ℕ, true, false, eqb, ltb, Option, List, [], length, inl, inr, refl, ap, ◌∙◌, arith}
use Rattle.std.specs.Prelude.{sum_by}
use Rattle.std.specs.Int.Digits.{digits_of}
use Rattle.std.specs.declared.alloc.Global.{Global}
use Rattle.std.specs.declared.vec.Vec.{Vec}
use Rattle.std.proofs.lemmas.Bool.{cases_Bool, ne_eqb}
use Rattle.std.proofs.lemmas.List.{length-append}
use Rattle.std.proofs.lemmas.List.Sums.{sum_by-cons}
use Rattle.dv_schema.specs.Tlv.{length_octets, tlv}
use Rattle.dv_schema.specs.Schema.{ValueOf, node, sequence_of, spelling}
use Rattle.dv_asn1.specs.Lists.{lists_of}
use Rattle.dv_asn1.proofs.Digits.{length-digits_le}
use Rattle.dv_cms.specs.Types.{content_header}
use Rattle.dv_cms.proofs.ContentHeader.{content_header-append}
use Rattle.dv_request.specs.declared.material.Material.{Material}
use Rattle.dv_request.specs.declared.material.Material.TheVariants.{Octets, Digest, Certificates}
use Rattle.dv_request.specs.declared.service.Service.{Service}
use Rattle.dv_request.specs.Made.{information_of, request_from, request_of, retagged, spelled_chain, targets_from}
use Rattle.dv_request.specs.Materials.{data_of, data_overhead, octets_in}
use Rattle.dv_request.specs.Request.{request_data_type}
use Rattle.dv_request.specs.Types.{data_of_request, dvcs_request, request_information, target_chain}
use Rattle.dv_request.proofs.ChainLemmas.{length-chain, length-retagged, size}

-- a length has at most nine octets
pub octets_few : (n : ℕ) → n < 18446744073709551616 → length (length_octets n) ≤ 9
octets_few n lt =
    let d : length (digits_of 256 n) ≤ 8 = length-digits_le n lt in
    elim (cases_Bool (ltb n 128)) [
      | inl t ↦ rw t (omega arith)
      | inr f ↦ rw f (omega arith)
    ]

-- what stands before a content that isn't long is short
pub header_few : (n : ℕ) → n < 18446744073709550000 → length (content_header request_data_type n) ≤ 33
unfolding content_header
header_few n lt =
    let a = octets_few n (omega arith) in
    let whole : ℕ = length (tlv 6 request_data_type) + (1 + length (length_octets n) + n) in
    let b = octets_few whole (omega arith) in
    omega (arith, a, b, length-append ((48 ∷ length_octets whole) ++ tlv 6 request_data_type) (160 ∷ length_octets n), length-append (48 ∷ length_octets whole) (tlv 6 request_data_type))

-- with its content it is the request
pub message_is : (s : Service) (m : ValueOf data_of_request) (nonce : Option (List ℕ)) (at : Option ℕ) (n : ℕ) → n ≡ length (spelling dvcs_request (request_from s m nonce at))
    → content_header request_data_type n ++ spelling dvcs_request (request_from s m nonce at) ≡ request_of s m nonce at
unfolding request_of
message_is s m nonce at n e =
    let content : List ℕ = spelling dvcs_request (request_from s m nonce at) in
    ap (λ (k : ℕ). content_header request_data_type k ++ content) e ∙ content_header-append request_data_type content

pub length-message : (s : Service) (m : ValueOf data_of_request) (nonce : Option (List ℕ)) (at : Option ℕ) (n : ℕ) → n ≡ length (spelling dvcs_request (request_from s m nonce at))
    → length (content_header request_data_type n) + n ≡ length (request_of s m nonce at)
length-message s m nonce at n e =
    let content : List ℕ = spelling dvcs_request (request_from s m nonce at) in
    let is = ap length (message_is s m nonce at n e) in
    let parts = length-append (content_header request_data_type n) content in
    omega (arith, is, parts, e)

-- data have few octets more than their material
pub overhead_few : (m : Material) → data_overhead m ≤ 30
overhead_few (Octets octets) = omega arith
overhead_few (Digest digest) = omega arith
overhead_few (Certificates certificates) = omega arith

-- ---- a request is at least as long as its material

-- a value is at least as long as its contents
value_longer : (tag : ℕ) (contents : List ℕ) → length contents ≤ length (tlv tag contents)
value_longer tag contents = omega (arith, length-append (tag ∷ length_octets (length contents)) contents)

-- a value is at least as long as a member in its midst
member_longer : (tag : ℕ) (front member more : List ℕ) → length member ≤ length (tlv tag (front ++ (member ++ more)))
member_longer tag front member more = omega (arith, value_longer tag (front ++ (member ++ more)), length-append front (member ++ more), length-append member more)

-- so a chain is at least as long as its certificates
chain_longer : (vs : List (Vec ℕ Global)) → sum_by size vs ≤ length (spelled_chain (lists_of vs))
chain_longer [] = omega arith
chain_longer (v ∷ vs) =
    let some : eqb (length (v ∷ vs)) 0 ≡ false = ne_eqb _ 0 (λ (z : length (v ∷ vs) ≡ 0). omega arith) in
    omega (arith, length-chain (v ∷ vs) some)

-- and so is the target that they make
target_longer : (vs : List (Vec ℕ Global)) → sum_by size vs ≤ length (spelling (node 160 (sequence_of true target_chain)) (targets_from (lists_of vs)))
target_longer [] = omega arith
target_longer (v ∷ vs) =
    let first : List ℕ = retagged 160 v.items in
    let chain : List ℕ = spelled_chain (lists_of vs) in
    let target : List ℕ = tlv 48 (first ++ (chain ++ [])) in
    let a = sum_by-cons size v vs in
    let b = length-retagged 160 v.items in
    let d = value_longer 48 (first ++ (chain ++ [])) in
    let e = value_longer 160 (target ++ []) in
    omega (arith, a, b, chain_longer vs, d, e, length-append first (chain ++ []), length-append chain [], length-append target [])

-- octets past the limit
data_longer : (m : Material) → 262144 < octets_in m → octets_in m ≤ length (spelling data_of_request (data_of m))
data_longer (Octets octets) lt = value_longer 4 octets.now
data_longer (Digest digest) lt = absurd (omega arith)
data_longer (Certificates certificates) lt = target_longer certificates.now

-- make a request past it
pub request_longer : (s : Service) (m : Material) (nonce : Option (List ℕ)) (at : Option ℕ) → 262144 < octets_in m → 262144 < length (request_of s (data_of m) nonce at)
request_longer s m nonce at lt =
    let matter : List ℕ = spelling data_of_request (data_of m) in
    let content : List ℕ = spelling dvcs_request (request_from s (data_of m) nonce at) in
    let a = data_longer m lt in
    let b = member_longer 48 (spelling request_information (information_of s nonce at)) matter [] in
    let c = length-message s (data_of m) nonce at (length content) refl in
    omega (arith, lt, a, b, c)
