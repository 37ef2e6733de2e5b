-- The signed attributes of a signer that is known to have a spelling.
use Rattle.std.proofs.Common.{◌≡◌, ◌∙◌, ℕ, true, false, Option, Some, None, Result, Ok, List, refl, sym, ap, subst, arith}
use Rattle.std.specs.Prelude.{IfSome}
use Rattle.std.proofs.Math.Nat.{ℕ_set}
use Rattle.std.proofs.Math.Logic.{∥∥₁_elim}
use mathlib.Core.Sum.{⊎_set}
use mathlib.Core.List.{is_set as List_set}
use Rattle.dv_schema.specs.declared.refusal.Der.{Der}
use Rattle.dv_schema.specs.Schema.{sequence_of, ValueOf}
use Rattle.dv_schema.specs.Fits.{Fits}
use Rattle.dv_schema.specs.Tlv.{tlv}
use Rattle.dv_schema.specs.Types.{ordered_of}
use Rattle.dv_schema.specs.Decodes.{HasSpelling}
use Rattle.dv_schema.proofs.Kept.{value_set}
use Rattle.dv_schema.proofs.Lists.{members_read}
use Rattle.dv_schema.proofs.Spellings.{fields_more}
use Rattle.dv_members.specs.Members.{front_of}
use Rattle.dv_members.proofs.MemberLemmas.{values_of_octets}
use Rattle.dv_cms.specs.Types.{attribute, signer_info}
use Rattle.dv_names.specs.declared.digest.DigestKind.{DigestKind}
use Rattle.dv_signed.specs.declared.fault.SignerFault.TheVariants.{Attribute, Digest}
use Rattle.dv_signed.specs.Attributes.{AreAttributes, are_octets, are_right, attributes_in, message_digest_of}
use Rattle.dv_signed.specs.Check.{Signed, fault_with}
use Rattle.dv_signed.specs.Fields.{signed_attributes_of}
use Rattle.dv_signed.specs.Kinds.{digest_by}

-- what reading answers is a set
list_set : IsSet (Result (List (ValueOf attribute)) Der)
list_set = let v : IsSet (List (ValueOf attribute)) = List_set (value_set attribute) in hlevel (v, ℕ_set, ⊎_set)

-- the attributes of a set that fits
attributes_fit : (octets : List ℕ) → Fits (ordered_of 160 true attribute) 31 octets → AreAttributes (front_of octets) (attributes_in octets)
attributes_fit octets f =
    let k = f.2 in
    let v = values_of_octets attribute true 0 octets k.0 refl k.1 (fields_more (sequence_of true attribute) 30 32 k.0 (omega arith) (k.2.0, k.2.1)) in
    members_read attribute true 0 (front_of octets) k.0 v.0 ∙ ap (λ (l : List (ValueOf attribute)). Ok l) (sym v.1)

-- those of a signer
pub attributes_are : (s : ValueOf signer_info) (octets : List ℕ) → ∥ HasSpelling signer_info s ∥₁ → signed_attributes_of s ≡ Some octets → AreAttributes (front_of octets) (attributes_in octets)
unfolding HasSpelling
attributes_are s octets h is =
    ∥∥₁_elim h (list_set _ _)
    (λ f. attributes_fit octets (subst (λ (o : Option (List ℕ)). IfSome o (Fits (ordered_of 160 true attribute) 31)) is f.0.2.1.1.1.0))

-- ---- the faults of attributes

-- they aren't right
pub not_right : (kind : DigestKind) (s : ValueOf signer_info) (x : Signed) (octets : List ℕ) → signed_attributes_of s ≡ Some octets → are_right x.type x.certificate (attributes_in octets) ≡ false → Some Attribute ≡ fault_with kind s x
not_right kind s x octets is e = rw (is, e) refl

-- they are, but don't have the digest
pub not_digest : (kind : DigestKind) (s : ValueOf signer_info) (x : Signed) (octets : List ℕ) → signed_attributes_of s ≡ Some octets → are_right x.type x.certificate (attributes_in octets) ≡ true
    → are_octets (message_digest_of (attributes_in octets)) (tlv 4 (digest_by kind x.content)) ≡ false → Some Digest ≡ fault_with kind s x
not_digest kind s x octets is e d = rw (is, e, d) refl

-- they have none
pub no_fault : (kind : DigestKind) (s : ValueOf signer_info) (x : Signed) (octets : List ℕ) → signed_attributes_of s ≡ Some octets → are_right x.type x.certificate (attributes_in octets) ≡ true
    → are_octets (message_digest_of (attributes_in octets)) (tlv 4 (digest_by kind x.content)) ≡ true → None ≡ fault_with kind s x
no_fault kind s x octets is e d = rw (is, e, d) refl
