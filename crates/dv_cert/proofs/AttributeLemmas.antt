-- The signed attributes, octet by octet, for digests of 32 octets.
use Rattle.std.proofs.Common.{◌≡◌, ◌∙◌, ℕ, List, ◌∷◌, ◌++◌, length, ap, sym, arith}
use Rattle.dv_schema.specs.Tlv.{length_octets, tlv}
use Rattle.dv_names.specs.declared.identifiers.TheConstants.{MESSAGE_DIGEST, SIGNING_CERTIFICATE_V2}
use Rattle.dv_cert.specs.declared.attributes.TheConstants.{BEFORE_CONTENT, BEFORE_OWN}
use Rattle.dv_cert.specs.Sealed.{attributes_with, content_type_attribute, message_digest_attribute, signing_certificate_attribute}

-- a value whose contents have so many octets
sized : (tag n : ℕ) (c : List ℕ) → length c ≡ n → tlv tag c ≡ (tag ∷ length_octets n) ++ c
sized tag n c e = ap (λ (k : ℕ). (tag ∷ length_octets k) ++ c) e

-- a value of few octets around another one
within : (tag n : ℕ) (c d : List ℕ) → c ≡ d → length d ≡ n → tlv tag c ≡ (tag ∷ length_octets n) ++ d
within tag n c d is e = ap (tlv tag) is ∙ sized tag n d e

digest_is : (digest : List ℕ) → length digest ≡ 32
    → message_digest_attribute digest ≡ 48 ∷ 47 ∷ 6 ∷ 9 ∷ 42 ∷ 134 ∷ 72 ∷ 134 ∷ 247 ∷ 13 ∷ 1 ∷ 9 ∷ 4 ∷ 49 ∷ 34 ∷ 4 ∷ 32 ∷ digest
digest_is digest e =
    let s4 : tlv 4 digest ≡ 4 ∷ 32 ∷ digest = sized 4 32 digest e in
    let s49 : tlv 49 (tlv 4 digest) ≡ 49 ∷ 34 ∷ 4 ∷ 32 ∷ digest = within 49 34 (tlv 4 digest) (4 ∷ 32 ∷ digest) s4 (omega (arith, e)) in
    within 48 47 (tlv 6 MESSAGE_DIGEST ++ tlv 49 (tlv 4 digest)) (6 ∷ 9 ∷ 42 ∷ 134 ∷ 72 ∷ 134 ∷ 247 ∷ 13 ∷ 1 ∷ 9 ∷ 4 ∷ 49 ∷ 34 ∷ 4 ∷ 32 ∷ digest)
    (ap (λ (x : List ℕ). tlv 6 MESSAGE_DIGEST ++ x) s49) (omega (arith, e))

own_is : (digest : List ℕ) → length digest ≡ 32
    → signing_certificate_attribute digest ≡ BEFORE_OWN ++ digest
own_is digest e =
    let s4 : tlv 4 digest ≡ 4 ∷ 32 ∷ digest = sized 4 32 digest e in
    let a : tlv 48 (tlv 4 digest) ≡ 48 ∷ 34 ∷ 4 ∷ 32 ∷ digest = within 48 34 (tlv 4 digest) (4 ∷ 32 ∷ digest) s4 (omega (arith, e)) in
    let b : tlv 48 (tlv 48 (tlv 4 digest)) ≡ 48 ∷ 36 ∷ 48 ∷ 34 ∷ 4 ∷ 32 ∷ digest = within 48 36 _ (48 ∷ 34 ∷ 4 ∷ 32 ∷ digest) a (omega (arith, e)) in
    let d : tlv 48 (tlv 48 (tlv 48 (tlv 4 digest))) ≡ 48 ∷ 38 ∷ 48 ∷ 36 ∷ 48 ∷ 34 ∷ 4 ∷ 32 ∷ digest = within 48 38 _ (48 ∷ 36 ∷ 48 ∷ 34 ∷ 4 ∷ 32 ∷ digest) b (omega (arith, e)) in
    let s49 : tlv 49 (tlv 48 (tlv 48 (tlv 48 (tlv 4 digest)))) ≡ 49 ∷ 40 ∷ 48 ∷ 38 ∷ 48 ∷ 36 ∷ 48 ∷ 34 ∷ 4 ∷ 32 ∷ digest =
    within 49 40 _ (48 ∷ 38 ∷ 48 ∷ 36 ∷ 48 ∷ 34 ∷ 4 ∷ 32 ∷ digest) d (omega (arith, e)) in
    within 48 55 _ (tlv 6 SIGNING_CERTIFICATE_V2 ++ 49 ∷ 40 ∷ 48 ∷ 38 ∷ 48 ∷ 36 ∷ 48 ∷ 34 ∷ 4 ∷ 32 ∷ digest)
    (ap (λ (x : List ℕ). tlv 6 SIGNING_CERTIFICATE_V2 ++ x) s49) (omega (arith, e))

pub attributes_are : (content own : List ℕ) → length content ≡ 32 → length own ≡ 32 → BEFORE_CONTENT ++ (content ++ (BEFORE_OWN ++ own)) ≡ attributes_with content own
unfolding attributes_with
attributes_are content own e f =
    sym (ap (λ (x : List ℕ). content_type_attribute ++ (x ++ signing_certificate_attribute own)) (digest_is content e)
    ∙ ap (λ (x : List ℕ). BEFORE_CONTENT ++ (content ++ x)) (own_is own f))
