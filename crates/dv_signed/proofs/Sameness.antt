-- Octets that are compared in parts.
use Rattle.std.proofs.Common.{◌≡◌, ◌≤◌, ◌<◌, ◌+◌, ◌&&◌, ◌++◌, ℕ, Bool, false, List, [], ◌∷◌, eqb, get_or, length, take, drop, refl, sym, ap, ◌∙◌, inl, inr, arith}
use Rattle.std.proofs.lemmas.Bool.{cases_Bool, lt-ltb}
use Rattle.std.proofs.lemmas.List.{length-append}
use Rattle.std.proofs.Math.Seq.{take-append_seam}
use Rattle.sha2.proofs.Facts256.{length-sha256}
use Rattle.sha2.proofs.Facts512.{length-sha384, length-sha512}
use Rattle.dv_schema.specs.Octets.{same_octets}
use Rattle.dv_schema.specs.Tlv.{length_octets, tlv}
use Rattle.dv_schema.proofs.Orders.{same_lengths}
use Rattle.dv_names.specs.declared.digest.DigestKind.{DigestKind}
use Rattle.dv_names.specs.declared.digest.DigestKind.TheVariants.{Sha256, Sha384, Sha512}
use Rattle.dv_names.specs.Digest.{length_of}
use Rattle.dv_signed.specs.Kinds.{digest_by}

-- how many octets a digest has
pub length-digest : (kind : DigestKind) (octets : List ℕ) → length (digest_by kind octets) ≡ length_of kind
length-digest Sha256 octets = length-sha256 octets
length-digest Sha384 octets = length-sha384 octets
length-digest Sha512 octets = length-sha512 octets

pub short_digest : (kind : DigestKind) → length_of kind < 128
short_digest Sha256 = omega arith
short_digest Sha384 = omega arith
short_digest Sha512 = omega arith

-- a short value by its tag, its length octet and its contents
short_value : (value contents : List ℕ) → length contents < 128 → 2 ≤ length value
    → same_octets value (tlv 4 contents) ≡ (eqb (get_or value 0 0) 4 && (eqb (get_or value 1 0) (length contents) && same_octets (drop 2 value) contents))
short_value [] contents short long = absurd (omega arith)
short_value (tag ∷ []) contents short long = absurd (omega arith)
short_value (tag ∷ size ∷ rest) contents short long = let one = lt-ltb _ _ short in rw one refl

-- the value of an OCTET STRING that holds a digest
pub holds : (kind : DigestKind) (octets value : List ℕ) → 2 ≤ length value
    → same_octets value (tlv 4 (digest_by kind octets)) ≡ (eqb (get_or value 0 0) 4 && (eqb (get_or value 1 0) (length_of kind) && same_octets (drop 2 value) (digest_by kind octets)))
holds kind octets value long =
    let d : List ℕ = digest_by kind octets in
    let n = length-digest kind octets in
    short_value value d (omega (arith, n, short_digest kind)) long ∙ ap (λ (k : ℕ). eqb (get_or value 0 0) 4 && (eqb (get_or value 1 0) k && same_octets (drop 2 value) d)) n

-- no octets, or one, are none
pub holds_not : (kind : DigestKind) (octets value : List ℕ) → length value < 2 → false ≡ same_octets value (tlv 4 (digest_by kind octets))
holds_not kind octets [] short = refl
holds_not kind octets (tag ∷ []) short =
    let n = length-digest kind octets in
    let one = lt-ltb (length (digest_by kind octets)) 128 (omega (arith, n, short_digest kind)) in
    elim (cases_Bool (eqb tag 4)) [
      | inl t ↦ rw (one, t) refl
      | inr f ↦ rw (one, f) refl
    ]
holds_not kind octets (tag ∷ size ∷ rest) short = absurd (omega arith)

-- octets by their front and the rest
pub same_parts : (head value contents : List ℕ) → length head ≤ length value
    → same_octets value (head ++ contents) ≡ (same_octets (take (length head) value) head && same_octets (drop (length head) value) contents)
same_parts [] value contents long = refl
same_parts (h ∷ hs) [] contents long = absurd (omega arith)
same_parts (h ∷ hs) (v ∷ vs) contents long =
    elim (cases_Bool (eqb v h)) [
      | inl t ↦ rw t (same_parts hs vs contents (omega arith))
      | inr f ↦ rw f refl
    ]

-- what was written into the front of a longer slice
pub front_is : (len : ℕ) (into head tail : List ℕ) → into ≡ head → len ≡ length head → take len (into ++ tail) ≡ head
front_is len into head tail is size =
    ap (λ (k : ℕ). take k (into ++ tail)) size ∙ ap (λ (x : List ℕ). take (length head) (x ++ tail)) is ∙ take-append_seam head tail

-- a value by its header and its contents
pub value_parts : (tag len : ℕ) (value contents : List ℕ) → len ≡ 1 + length (length_octets (length contents)) → len ≤ length value
    → same_octets value (tlv tag contents) ≡ (same_octets (take len value) (tag ∷ length_octets (length contents)) && same_octets (drop len value) contents)
value_parts tag len value contents size long =
    let head : List ℕ = tag ∷ length_octets (length contents) in
    let n : len ≡ length head = size ∙ omega arith in
    same_parts head value contents (omega (arith, n, long)) ∙ ap (λ (k : ℕ). same_octets (take k value) head && same_octets (drop k value) contents) (sym n)

-- what a comparison with a header that was written says
pub header_told : (tag n len : ℕ) (front value into tail : List ℕ) (r : Bool) → r ≡ same_octets front (take len (into ++ tail)) → front ≡ take len value → into ≡ tag ∷ length_octets n → len ≡ 1 + length (length_octets n)
    → same_octets (take len value) (tag ∷ length_octets n) ≡ r
header_told tag n len front value into tail r told is written size =
    let head : List ℕ = tag ∷ length_octets n in
    let all = front_is len into head tail written (size ∙ omega arith) in
    ap (same_octets (take len value)) (sym all) ∙ ap (λ (x : List ℕ). same_octets x (take len (into ++ tail))) (sym is) ∙ sym told

-- fewer octets than a header has
pub value_short : (tag len : ℕ) (value contents : List ℕ) → len ≡ 1 + length (length_octets (length contents)) → length value < len → false ≡ same_octets value (tlv tag contents)
value_short tag len value contents size short =
    let more = length-append (length_octets (length contents)) contents in
    sym (same_lengths value (tlv tag contents) (λ e. absurd (omega (arith, e, size, short, more))))
