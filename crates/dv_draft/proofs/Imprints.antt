-- The imprint that a DigestInfo is.
use Rattle.std.proofs.Common.{◌≡◌, ℕ, Bool, true, false, cond, eqb, Option, Some, None, List, [], ◌∷◌, refl, sym, ap, ◌∙◌}
use Rattle.std.proofs.lemmas.Bool.{and_parts, eqb-true}
use Rattle.std.specs.Borrow.{Bor}
use Rattle.std.specs.Prelude.{is_some}
use Rattle.std.specs.Option.{option_copied}
use Rattle.dv_schema.specs.Octets.{same_octets}
use Rattle.dv_schema.specs.Schema.{ValueOf}
use Rattle.dv_names.specs.declared.digest.DigestKind.{DigestKind}
use Rattle.dv_names.specs.declared.digest.DigestKind.TheVariants.{Sha256, Sha384, Sha512}
use Rattle.dv_names.specs.declared.identifiers.TheConstants.{SHA_256, SHA_384, SHA_512}
use Rattle.dv_names.specs.Digest.{is_none_or_null, kind_named, kind_of}
use Rattle.dv_names.specs.Types.{digest_info}
use Rattle.dv_draft.specs.Parts.{identifier_of, imprint_of}

-- octets that are the same are equal
pub same_is : (xs ys : List ℕ) → same_octets xs ys ≡ true → xs ≡ ys
same_is [] [] e = refl
same_is [] (y ∷ ys) e = absurd cc
same_is (x ∷ xs) [] e = absurd cc
same_is (x ∷ xs) (y ∷ ys) e =
    let p = and_parts (eqb x y) (same_octets xs ys) e in
    let head : x ≡ y = eqb-true x y p.0 in
    let tail : xs ≡ ys = same_is xs ys p.1 in
    cc

-- an algorithm that was found by its identifier
chosen_kind : (a b c : Bool) (id : List ℕ) (k : DigestKind) → (a ≡ true → id ≡ SHA_256) → (b ≡ true → id ≡ SHA_384) → (c ≡ true → id ≡ SHA_512)
    → cond a (Some Sha256) (cond b (Some Sha384) (cond c (Some Sha512) None)) ≡ Some k → id ≡ identifier_of k
chosen_kind true b c id Sha256 f g h e = f refl
chosen_kind true b c id Sha384 f g h e = absurd cc
chosen_kind true b c id Sha512 f g h e = absurd cc
chosen_kind false true c id Sha256 f g h e = absurd cc
chosen_kind false true c id Sha384 f g h e = g refl
chosen_kind false true c id Sha512 f g h e = absurd cc
chosen_kind false false true id Sha256 f g h e = absurd cc
chosen_kind false false true id Sha384 f g h e = absurd cc
chosen_kind false false true id Sha512 f g h e = h refl
chosen_kind false false false id k f g h e = absurd cc

-- the identifier of an algorithm that is known
named_is : (id : List ℕ) (k : DigestKind) → kind_named id ≡ Some k → id ≡ identifier_of k
named_is id k e =
    chosen_kind (same_octets id SHA_256) (same_octets id SHA_384) (same_octets id SHA_512) id k (same_is id SHA_256) (same_is id SHA_384) (same_is id SHA_512) e

-- parameters that are absent or NULL
parameters_are : (params : Option (Bor (List ℕ))) → is_none_or_null (option_copied params) ≡ true
    → ◌≡◌ {A = Option (List ℕ)} (cond (is_some params) (Some (5 ∷ 0 ∷ [])) None) (option_copied params)
parameters_are None e = refl
parameters_are (Some p) e = ap (λ (o : List ℕ). Some o) (sym (same_is p.now (5 ∷ 0 ∷ []) e))

-- what a choice gave, where it gave one
given : (b : Bool) (o : Option DigestKind) (k : DigestKind) → cond b o None ≡ Some k → (b ≡ true) × (o ≡ Some k)
given true o k e = (refl, e)
given false o k e = absurd cc

-- a DigestInfo whose algorithm is known is an imprint
pub imprint_is : (id : List ℕ) (params : Option (Bor (List ℕ))) (digest : List ℕ) (k : DigestKind) (with_null : Bool) → kind_of (id, (option_copied params, tt)) ≡ Some k → with_null ≡ is_some params
    → ◌≡◌ {A = ValueOf digest_info} (imprint_of k with_null digest) ((id, (option_copied params, tt)), (digest, tt))
imprint_is id params digest k with_null e is =
    let g = given (is_none_or_null (option_copied params)) (kind_named id) k e in
    let named : identifier_of k ≡ id = sym (named_is id k g.1) in
    let null : ◌≡◌ {A = Option (List ℕ)} (cond with_null (Some (5 ∷ 0 ∷ [])) None) (option_copied params) =
    ap (λ (b : Bool). cond b (Some (5 ∷ 0 ∷ [])) None) is ∙ parameters_are params g.0 in
    let make : List ℕ → Option (List ℕ) → ValueOf digest_info = λ i o. ((i, (o, tt)), (digest, tt)) in
    ap (λ (i : List ℕ). make i (cond with_null (Some (5 ∷ 0 ∷ [])) None)) named ∙ ap (make id) null
