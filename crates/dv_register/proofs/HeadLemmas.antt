-- What the head of a file says.
use Rattle.std.proofs.Common.{◌≡◌, ◌≢◌, ◌∙◌, ℕ, ◌+◌, ◌<◌, ◌≤◌, List, [], ◌∷◌, ◌++◌, length, take, drop, get_or, subst, ap, refl, sym, arith, take-append-drop, length-drop, length-append}
use Rattle.std.proofs.lemmas.List.{drop-take, take-take, drop-drop, get_or-drop, take_all, take_at}
use Rattle.std.proofs.lemmas.Nat.{be_bytes_8}
use Rattle.std.specs.Int.{to_be_bytes, from_be_bytes, w64}
use Rattle.std.specs.Prelude.{Result, Ok, Err, IfErr}
use Rattle.dv_register.specs.Opening.{IsCause}
use Rattle.dv_register.specs.declared.refusals.Open.{Open}
use Rattle.dv_register.specs.declared.refusals.Open.TheVariants.{NotRegister, OtherKey, Fault, Memory}
use Rattle.dv_register.specs.Layout.{magic, head_of}
use Rattle.dv_register.specs.Refusals.{HasMagic, IsFirstSerial, IsOtherKey, IsNoRegister, no_serial, no_magic}

-- a part of the first 76 octets
part_of_head : (n k m : ℕ) (octets : List ℕ) → 76 ≡ k + m → n ≤ m → take n (drop k octets) ≡ take n (drop k (take 76 octets))
part_of_head n k m octets sum le =
    sym (ap (λ j. take n (drop k (take j octets))) sum ∙ ap (take n) (drop-take k m octets) ∙ take-take n m (drop k octets) le)

module _ (octets head : List ℕ) (long : 77 ≤ length octets) (is : take 76 octets ≡ head) where
  has_magic : take 8 head ≡ magic → HasMagic octets
  has_magic begins = record { long = long; magic = part_of_head 8 0 76 octets refl (omega arith) ∙ ap (take 8) is ∙ begins }

  pub other_magic : (key : List ℕ) (limit : ℕ) → take 8 head ≢ magic → IsNoRegister octets key limit 0
  other_magic key limit differs = no_magic (λ has. differs (sym (ap (take 8) is) ∙ sym (part_of_head 8 0 76 octets refl (omega arith)) ∙ has.magic)) refl

  pub other_key : (key : List ℕ) → take 8 head ≡ magic → take 60 (drop 8 head) ≢ key → IsOtherKey octets key
  other_key key begins differs = record {
    magic = has_magic begins;
    differs = λ same. differs (sym (part_of_head 60 8 68 octets refl (omega arith) ∙ ap (λ (l : List ℕ). take 60 (drop 8 l)) is) ∙ same);
  }

  pub other_serial : (key : List ℕ) (limit first : ℕ) → take 8 head ≡ magic → take 60 (drop 8 head) ≡ key → first ≡ from_be_bytes w64 (take 8 (drop 68 head)) → ¬ IsFirstSerial first
      → IsNoRegister octets key limit 68
  other_serial key limit first begins same value bad =
      no_serial (has_magic begins)
      (part_of_head 60 8 68 octets refl (omega arith) ∙ ap (λ (l : List ℕ). take 60 (drop 8 l)) is ∙ same)
      (λ good. bad (subst IsFirstSerial (sym (value ∙ sym (ap (from_be_bytes w64) (part_of_head 8 68 8 octets refl (omega arith) ∙ ap (λ (l : List ℕ). take 8 (drop 68 l)) is)))) good))
      refl

-- a head by its parts
pub head_is : (head key : List ℕ) (first : ℕ) → length head ≡ 76 → ((i : ℕ) → get_or head i 0 < 256) → take 8 head ≡ magic → take 60 (drop 8 head) ≡ key → first ≡ from_be_bytes w64 (take 8 (drop 68 head))
    → head ≡ head_of key first
unfolding head_of
head_is head key first size octets begins same value =
    let rest : drop 60 (drop 8 head) ≡ drop 68 head = drop-drop 60 8 head in
    let serial : to_be_bytes w64 first ≡ drop 68 head =
    be_bytes_8 (drop 68 head) first (omega (arith, size, length-drop 68 head)) (λ i. subst (λ n. n < 256) (sym (get_or-drop 68 head i 0)) (octets (68 + i))) (value ∙ ap (from_be_bytes w64) (take_all 8 (drop 68 head) (omega (arith, size, length-drop 68 head)))) in
    sym (take-append-drop 8 head)
    ∙ ap (λ (l : List ℕ). l ++ drop 8 head) begins
    ∙ ap (λ (l : List ℕ). magic ++ l) (sym (take-append-drop 60 (drop 8 head)) ∙ ap (λ (l : List ℕ). l ++ drop 60 (drop 8 head)) same ∙ ap (λ (l : List ℕ). key ++ l) (rest ∙ sym serial))

-- What a head says of a file, where that is told.
pub head_cause : {T : Type 0} (r : Result T Open) (told : Type 0) (file key head : List ℕ) (limit before now : ℕ) → length head ≡ 76 → (told → 77 ≤ length file) → (told → take 76 file ≡ head)
    → ((octets : List ℕ) → 77 ≤ length octets → take 76 octets ≡ head → (limit before now : ℕ) → IfErr r (IsCause (IsNoRegister octets key limit) (IsOtherKey octets key) before now))
    → IfErr r (IsCause (λ place. told → IsNoRegister file key limit place) (told → IsOtherKey file key) before now)
head_cause (Ok x) told file key head limit before now size long is says = tt
head_cause (Err (NotRegister place)) told file key head limit before now size long is says = λ here. says file (long here) (is here) limit before now
head_cause (Err OtherKey) told file key head limit before now size long is says = λ here. says file (long here) (is here) limit before now
head_cause (Err Fault) told file key head limit before now size long is says =
    says (head ++ 0 ∷ []) (omega (arith, size, length-append head (0 ∷ []))) (take_at head (0 ∷ []) 76 size) limit before now
head_cause (Err Memory) told file key head limit before now size long is says = tt
