-- The hashes of certificates among a signer's attributes.
use Rattle.std.proofs.Common.{◌≡◌, ◌∙◌, ℕ, true, false, Some, Ok, Err, List, eqb, length, inl, inr, refl, sym, ap, arith}
use Rattle.std.proofs.lemmas.Bool.{cases_Bool, ne_eqb}
use Rattle.dv_schema.specs.declared.refusal.Der.{Der}
use Rattle.dv_schema.specs.declared.refusal.Why.TheVariants.{Value}
use Rattle.dv_schema.specs.Octets.{IsBytes, same_octets}
use Rattle.dv_schema.specs.Schema.{Schema, sequence_of, ValueOf}
use Rattle.dv_schema.specs.Types.{but}
use Rattle.dv_schema.specs.Reading.{Spot, all_at, is_tag_of, maybe_at, read, refuse, starts_list, taken}
use Rattle.dv_schema.proofs.Counts.{member_fault, member_none, member_turn}
use Rattle.dv_schema.proofs.Lists.{members_read}
use Rattle.dv_schema.proofs.Moves.{moves}
use Rattle.dv_schema.proofs.Spellings.{fields_more}
use Rattle.dv_schema.proofs.Takes.{takes}
use Rattle.dv_members.specs.Members.{front_of, values_in}
use Rattle.dv_members.proofs.MemberLemmas.{values_of_octets}
use Rattle.dv_signed.specs.Essential.{certificate_id, is_digest_by, kind_or_default, names_certificate, names_first, signing_certificate}

-- a field with a default, whose tag is there, and which is another
pub other_value : (d : List ℕ) (s : Schema) (tag : ℕ) (p : Spot) (x : ValueOf s × Spot) → starts_list (is_tag_of tag) p.rest ≡ true → read s p ≡ Ok x → same_octets (taken p x.1) d ≡ false
    → maybe_at (starts_list (is_tag_of tag) p.rest) p (read (but d s) p) ≡ Ok (Some x.0, x.1)
unfolding read
other_value d s tag p x there e other = rw (there, e, other) refl

-- or is the default, spelled out
pub spelled_out : (d : List ℕ) (s : Schema) (tag : ℕ) (p : Spot) (x : ValueOf s × Spot) → starts_list (is_tag_of tag) p.rest ≡ true → read s p ≡ Ok x → same_octets (taken p x.1) d ≡ true
    → maybe_at (starts_list (is_tag_of tag) p.rest) p (read (but d s) p) ≡ refuse p.place Value
unfolding read
spelled_out d s tag p x there e is = rw (there, e, is) refl

-- or is refused
pub refused_there : (d : List ℕ) (s : Schema) (tag : ℕ) (p : Spot) (bad : Der) → starts_list (is_tag_of tag) p.rest ≡ true → read s p ≡ Err bad
    → maybe_at (starts_list (is_tag_of tag) p.rest) p (read (but d s) p) ≡ Err bad
unfolding read
refused_there d s tag p bad there e = rw (there, e) refl

-- the hashes of a SigningCertificateV2 that was read are read again from their contents
pub certs_read : (octets : List ℕ) (x : ValueOf signing_certificate × Spot) → IsBytes octets → read signing_certificate (front_of octets) ≡ Ok x
    → all_at (read certificate_id) (length x.0.0) (front_of x.0.0) ≡ Ok (values_in certificate_id x.0.0)
certs_read octets x bytes e =
    let t = takes signing_certificate (front_of octets) x bytes e in
    let k = t.1.2.0.2 in
    let v = values_of_octets certificate_id true 0 x.0.0 k.0 refl k.1 (fields_more (sequence_of true certificate_id) 30 32 k.0 (omega arith) k.2) in
    members_read certificate_id true 0 (front_of x.0.0) k.0 v.0 ∙ ap (λ (l : List (ValueOf certificate_id)). Ok l) (sym v.1)

-- the first of the hashes that were read
pub first_read : (certificate certs : List ℕ) (x : ValueOf certificate_id × Spot) (vs : List (ValueOf certificate_id)) → read certificate_id (front_of certs) ≡ Ok x → all_at (read certificate_id) (length certs) (front_of certs) ≡ Ok vs
    → is_digest_by (kind_or_default x.0.0) certificate x.0.1.0 ≡ names_first certificate vs
first_read certificate certs x vs e all =
    let m = moves certificate_id (front_of certs) x e in
    let some : eqb (length certs) 0 ≡ false = ne_eqb (length certs) 0 (λ z. absurd (omega (arith, m.less, z))) in
    let t = member_turn certificate_id (front_of certs) x vs some e all in
    ap (names_first certificate) t.2

-- where the first is refused, there are none
pub first_refused : (certificate certs : List ℕ) (d : Der) (vs : List (ValueOf certificate_id)) → read certificate_id (front_of certs) ≡ Err d → all_at (read certificate_id) (length certs) (front_of certs) ≡ Ok vs
    → false ≡ names_first certificate vs
first_refused certificate certs d vs e all =
    elim (cases_Bool (eqb (length certs) 0)) [
      | inl none ↦ ap (names_first certificate) (member_none certificate_id (front_of certs) vs none all)
      | inr some ↦ absurd (member_fault certificate_id (front_of certs) d vs some e all)
    ]

-- ---- the whole value

-- octets that are refused name no certificate
pub names_none : (certificate octets : List ℕ) (d : Der) → read signing_certificate (front_of octets) ≡ Err d → false ≡ names_certificate certificate octets
unfolding names_certificate
names_none certificate octets d e = rw e refl

-- nor do octets behind which others are left
pub names_front : (certificate octets : List ℕ) (x : ValueOf signing_certificate × Spot) → read signing_certificate (front_of octets) ≡ Ok x → eqb (length x.1.rest) 0 ≡ false → false ≡ names_certificate certificate octets
unfolding names_certificate
names_front certificate octets x e more = rw (e, more) refl

-- others name their first
pub names_its_first : (certificate octets : List ℕ) (x : ValueOf signing_certificate × Spot) → read signing_certificate (front_of octets) ≡ Ok x → eqb (length x.1.rest) 0 ≡ true
    → names_first certificate (values_in certificate_id x.0.0) ≡ names_certificate certificate octets
unfolding names_certificate
names_its_first certificate octets x e end = rw (e, end) refl
