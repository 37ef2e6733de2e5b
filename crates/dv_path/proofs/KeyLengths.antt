-- An HSS key has 60 octets.
use Rattle.std.proofs.Common.{◌≡◌, ℕ, Bool, true, false, ◌&&◌, cond, eqb, List, [], ◌∷◌, length, refl, ap, sym, ◌∙◌}
use Rattle.std.specs.Prelude.{Some, None}
use Rattle.std.proofs.lemmas.Bool.{and_parts, eqb-true}
use Rattle.dv_schema.specs.Schema.{FieldsOf}
use Rattle.dv_x509.specs.Types.{certificate_fields}
use Rattle.dv_x509.specs.Uses.{is_hss, key_in_bits, key_of, plain_key, wrapped_key}

-- what is chosen where a test holds
chosen : (t : Bool) (key k : List ℕ) → (t ≡ true → length key ≡ 60) → cond t (Some key) None ≡ Some k → length k ≡ 60
chosen true key k h e = let same : key ≡ k = cc in ap length (sym same) ∙ h refl
chosen false key k h e = absurd cc

wrapped : (octets key : List ℕ) → wrapped_key octets ≡ Some key → length key ≡ 60
wrapped [] key e = absurd cc
wrapped (tag ∷ []) key e = absurd cc
wrapped (tag ∷ size ∷ inside) key e =
    chosen ((eqb tag 4 && eqb size 60) && eqb (length inside) 60) inside key (λ t. eqb-true _ _ (and_parts (eqb tag 4 && eqb size 60) (eqb (length inside) 60) t).1) e

plain_with : (t : Bool) (octets key : List ℕ) → (t ≡ true → length octets ≡ 60) → cond t (Some octets) (wrapped_key octets) ≡ Some key → length key ≡ 60
plain_with true octets key h e = chosen true octets key h e
plain_with false octets key h e = wrapped octets key e

plain : (octets key : List ℕ) → plain_key octets ≡ Some key → length key ≡ 60
plain octets key e = plain_with (eqb (length octets) 60) octets key (λ t. eqb-true _ _ t) e

bits_with : (t : Bool) (octets key : List ℕ) → cond t (plain_key octets) None ≡ Some key → length key ≡ 60
bits_with true octets key e = plain octets key e
bits_with false octets key e = absurd cc

bits : (contents key : List ℕ) → key_in_bits contents ≡ Some key → length key ≡ 60
bits [] key e = absurd cc
bits (unused ∷ octets) key e = bits_with (eqb unused 0) octets key e

info_with : (t : Bool) (contents key : List ℕ) → cond t (key_in_bits contents) None ≡ Some key → length key ≡ 60
info_with true contents key e = bits contents key e
info_with false contents key e = absurd cc

-- that of a certificate
pub key_length : (v : FieldsOf certificate_fields) (key : List ℕ) → key_of v ≡ Some key → length key ≡ 60
key_length v key e = info_with (is_hss v.0.1.1.1.1.1.1.0.0) v.0.1.1.1.1.1.1.0.1.0 key e
