-- The header of a ContentInfo and its content are its spelling.
use Rattle.std.proofs.Common.{◌≡◌, ℕ, ◌+◌, ◌<◌, List, [], ◌∷◌, ◌++◌, length, refl, sym, ap, ◌∙◌, append_assoc, arith}
use Rattle.std.proofs.lemmas.List.{length-append, append-nil}
use Rattle.dv_schema.specs.Tlv.{tlv, length_octets}
use Rattle.dv_schema.specs.Schema.{spelling}
use Rattle.dv_schema.specs.Decodes.{HasSpelling}
use Rattle.dv_schema.proofs.Kept.{kept_short}
use Rattle.dv_cms.specs.Types.{content_info, content_header}

-- the octets of the content under its explicit tag
tagged : (content : List ℕ) → tlv 160 (content ++ []) ++ [] ≡ tlv 160 content
tagged content = append-nil (tlv 160 (content ++ [])) ∙ ap (tlv 160) (append-nil content)

-- what stands before the content, and the content, are the value
pub content_header-append : (type content : List ℕ) → content_header type (length content) ++ content ≡ spelling content_info (type, ((content, tt), tt))
unfolding content_header
content_header-append type content =
    let front : List ℕ = 160 ∷ length_octets (length content) in
    let whole : List ℕ = tlv 6 type ++ tlv 160 content in
    let size : length whole ≡ length (tlv 6 type) + (1 + length (length_octets (length content)) + length content) = omega (arith, length-append (tlv 6 type) (tlv 160 content), length-append front content) in
    let head : List ℕ = 48 ∷ length_octets (length (tlv 6 type) + (1 + length (length_octets (length content)) + length content)) in
    append_assoc (head ++ tlv 6 type) front content ∙ append_assoc head (tlv 6 type) (front ++ content)
    ∙ ap (λ (n : ℕ). (48 ∷ length_octets n) ++ whole) (sym size)
    ∙ ap (λ (c : List ℕ). tlv 48 (tlv 6 type ++ c)) (sym (tagged content))

-- so its length is that of both
pub length-content_header : (type content : List ℕ) → length (content_header type (length content)) + length content ≡ length (spelling content_info (type, ((content, tt), tt)))
length-content_header type content =
    sym (length-append (content_header type (length content)) content) ∙ ap length (content_header-append type content)

-- and below 2^64 where the value is kept
pub content_header_short : (type content : List ℕ) → ∥ HasSpelling content_info (type, ((content, tt), tt)) ∥₁ → length (content_header type (length content)) + length content < 18446744073709551616
content_header_short type content kept = let a = length-content_header type content in let b = kept_short content_info (type, ((content, tt), tt)) kept in omega (arith, a, b)
