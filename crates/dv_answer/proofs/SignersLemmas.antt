-- The failure of the signers of a request, one after another.
use Rattle.std.proofs.Common.{◌≡◌, ◌<◌, ◌≤◌, ◌+◌, ◌*◌, ◌∙◌, ℕ, suc, Option, Some, None, List, [], ◌∷◌, drop, length, inl, inr, refl, sym, ap, subst, arith}
use Rattle.std.specs.Prelude.{slice_get}
use Rattle.std.proofs.Math.ListN.{drop_of_length-le}
use Rattle.std.proofs.Math.Nat.{mul-le-mul_right}
use Rattle.std.proofs.Math.Seq.{drop-cons}
use Rattle.std.proofs.lemmas.Option.{slice_get_cases}
use Rattle.dv_schema.specs.Schema.{ValueOf}
use Rattle.dv_cms.specs.Types.{signed_data, signer_info}
use Rattle.dv_path.specs.Anchors.{Anchored}
use Rattle.dv_svc_document.specs.declared.result.SignerResult.{SignerResult}
use Rattle.dv_svc_document.specs.Results.{IsResult}
use Rattle.dv_answer.specs.Failures.{IsFailureOf, IsFirstBit, OrNext}

-- ---- the first bit

-- within a list there is an element at each index, with which what is left from there on begins
at_index : {X : Type 0} (xs : List X) (i : ℕ) → i < length xs → (x : X) × (slice_get xs i ≡ Some x) × (drop i xs ≡ x ∷ drop (suc i) xs)
at_index {X} xs i lt =
    elim ((slice_get_cases xs i).1) [
      | inl found ↦ (found.0, found.2, drop-cons xs i found.0 lt ∙ ap (λ (y : X). y ∷ drop (suc i) xs) found.3)
      | inr past ↦ absurd (omega (arith, past.0))
    ]

-- the failure of signers, where there are some
some_failure : (document : ValueOf signed_data) (anchors : List Anchored) (moment : ℕ) (ss : List (ValueOf signer_info)) (failure : Option ℕ) → (length ss ≡ 0 → ⊥) → IsFirstBit document anchors moment ss failure
    → IsFailureOf document anchors moment ss failure
some_failure document anchors moment [] failure some is = absurd (some refl)
some_failure document anchors moment (s ∷ ss) failure some is = is

module _ (document : ValueOf signed_data) (anchors : List Anchored) (moment : ℕ) (ss : List (ValueOf signer_info)) where
  -- the failure of the signers from an index on is that of all
  abbrev pub GoesOn : ℕ → Type 0
  GoesOn i = (failure : Option ℕ) → IsFirstBit document anchors moment (drop i ss) failure → IsFirstBit document anchors moment ss failure

  -- what is found of the signer there
  abbrev pub Found : ℕ → SignerResult → Type 0
  Found i r = (s : ValueOf signer_info) → slice_get ss i ≡ Some s → IsResult document anchors moment s r

  -- the failure from an index on, by the result there
  from_here : (i : ℕ) (r : SignerResult) (bit failure : Option ℕ) → i < length ss → Found i r → r.bit ≡ bit → OrNext bit (IsFirstBit document anchors moment (drop (suc i) ss)) failure
      → IsFirstBit document anchors moment (drop i ss) failure
  from_here i r bit failure lt found is next =
      let s = at_index ss i lt in
      let rest : List (ValueOf signer_info) = drop (suc i) ss in
      subst (λ (l : List (ValueOf signer_info)). IsFirstBit document anchors moment l failure) (sym s.2)
      (r, found s.0 s.1, subst (λ (o : Option ℕ). OrNext o (IsFirstBit document anchors moment rest) failure) (sym is) next)

  -- the result there has a bit
  pub bit_here : (i : ℕ) (r : SignerResult) (bit : ℕ) → GoesOn i → i < length ss → Found i r → r.bit ≡ Some bit → IsFailureOf document anchors moment ss (Some bit)
  bit_here i r bit goes lt found is =
      some_failure document anchors moment ss (Some bit) (λ none. absurd (omega (arith, lt, none))) (goes (Some bit) (from_here i r (Some bit) (Some bit) lt found is refl))

  -- or none
  pub goes_later : (i : ℕ) (r : SignerResult) → GoesOn i → i < length ss → Found i r → r.bit ≡ None → GoesOn (suc i)
  goes_later i r goes lt found is failure later = goes failure (from_here i r None failure lt found is later)

  -- none of them has one
  pub no_bit : (i : ℕ) → GoesOn i → length ss ≤ i → (length ss ≡ 0 → ⊥) → IsFailureOf document anchors moment ss None
  no_bit i goes le some =
      some_failure document anchors moment ss None some
      (goes None (subst (λ (l : List (ValueOf signer_info)). IsFirstBit document anchors moment l None) (sym (drop_of_length-le ss le)) refl))

-- ---- how many signatures are verified

-- with one signer more, where the bag has so many certificates
pub checks_more : (old now new i bag n a : ℕ) → bag ≡ n → now ≤ old + i * (n * (n + a) + 1) → new ≤ now + (bag * (bag + a) + 1) → new ≤ old + (i + 1) * (n * (n + a) + 1)
checks_more old now new i bag n a size before more =
    let each : new ≤ now + (n * (n + a) + 1) = subst (λ (k : ℕ). new ≤ now + (k * (k + a) + 1)) size more in
    omega arith

-- with all of them
pub checks_all : (old new i all each : ℕ) → new ≤ old + i * each → i ≤ all → new ≤ old + all * each
checks_all old new i all each before le = let more : i * each ≤ all * each = mul-le-mul_right each le in omega arith

-- and where a signer among them is the last one that is looked at
pub checks_here : (old now new i bag n a all : ℕ) → bag ≡ n → now ≤ old + i * (n * (n + a) + 1) → new ≤ now + (bag * (bag + a) + 1) → i < all → new ≤ old + all * (n * (n + a) + 1)
checks_here old now new i bag n a all size before more lt =
    checks_all old new (i + 1) all (n * (n + a) + 1) (checks_more old now new i bag n a size before more) (omega arith)
