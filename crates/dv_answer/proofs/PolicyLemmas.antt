-- The identifier of a server's policy, and another one.
use Rattle.std.proofs.Common.{◌≡◌, ◌≤◌, ◌∙◌, ℕ, true, Ok, Err, List, [], ◌∷◌, length, refl, sym, ap, subst, inl, inr, arith}
use Rattle.std.proofs.lemmas.Bool.{cases_Bool}
use Rattle.std.proofs.lemmas.List.{append-nil, length-append}
use Rattle.std.proofs.Math.Bool.{Bool-set}
use Rattle.std.proofs.Math.Logic.{∥∥₁_elim}
use Rattle.dv_schema.specs.declared.refusal.Der.{Der}
use Rattle.dv_schema.specs.Decodes.{Decodes, HasSpelling}
use Rattle.dv_schema.specs.Fits.{Fits}
use Rattle.dv_schema.specs.Octets.{same_octets}
use Rattle.dv_schema.specs.Reading.{Spot}
use Rattle.dv_schema.specs.Tlv.{tlv, length_octets}
use Rattle.dv_schema.specs.Types.{oid}
use Rattle.dv_schema.proofs.Spellings.{one_spelling}
use Rattle.dv_schema.proofs.Takes.{same_self}
use Rattle.dv_names.specs.declared.algorithm.Oid.{Oid}
use Rattle.dv_names.specs.Views.{view_oid}
use Rattle.dv_members.specs.Members.{front_of}
use Rattle.dv_x509.proofs.Algorithms.{same_is}
use Rattle.dv_draft.specs.Servers.{IsPolicyName}

-- values are the same octets exactly where their contents are
same_values : (x y : List ℕ) → Fits oid 32 x → Fits oid 32 y → same_octets x y ≡ same_octets (tlv 6 x) (tlv 6 y)
same_values x y fits also =
    elim (cases_Bool (same_octets x y)) [
      | inl t ↦ t ∙ sym (same_self (tlv 6 x)) ∙ ap (λ (z : List ℕ). same_octets (tlv 6 x) (tlv 6 z)) (same_is x y t)
      | inr f ↦ elim (cases_Bool (same_octets (tlv 6 x) (tlv 6 y))) [
        | inl t ↦
            let e : x ≡ y = one_spelling oid 32 32 x y refl fits also (same_is (tlv 6 x) (tlv 6 y) t) in
            let s : same_octets x y ≡ true = ap (same_octets x) (sym e) ∙ same_self x in
            absurd cc
        | inr g ↦ f ∙ sym g
      ]
    ]

-- the identifier of a policy fits
named : (policy : List ℕ) → length policy ≤ 2048 → (id : List ℕ) → (is : policy ≡ tlv 6 id) → length id ≤ 2048
named policy short id is = omega (arith, short, ap length is, length-append (6 ∷ length_octets (length id)) id)

-- the identifier that was decoded is the policy's
pub same_policy : (policy : List ℕ) (asked : List ℕ) (own : Oid) (old new : Spot) → IsPolicyName policy → ∥ HasSpelling oid asked ∥₁ → old ≡ front_of policy → Decodes oid view_oid (Ok own) old new
    → same_octets own.octets.now asked ≡ same_octets policy (tlv 6 asked)
unfolding HasSpelling
same_policy policy asked own old new named_so spelled start decodes =
    ∥∥₁_elim spelled (Bool-set (same_octets own.octets.now asked) (same_octets policy (tlv 6 asked)))
    (λ f. ∥∥₁_elim named_so.1 (Bool-set (same_octets own.octets.now asked) (same_octets policy (tlv 6 asked)))
    (λ k. (let id : List ℕ = k.0 in
    let fits : Fits oid 32 id = (omega arith, omega (arith, named policy named_so.0 id k.2), k.1) in
    let levels : old.levels ≡ 32 = ap (λ (p : Spot). p.levels) start in
    let is = decodes.only id [] (subst (λ (n : ℕ). Fits oid n id) (sym levels) fits) (ap (λ (p : Spot). p.rest) start ∙ k.2 ∙ sym (append-nil (tlv 6 id))) in
    ap (λ (x : List ℕ). same_octets x asked) is.0 ∙ same_values id asked fits f.0 ∙ ap (λ (x : List ℕ). same_octets x (tlv 6 asked)) (sym k.2))))

-- an identifier is decoded from a policy
pub no_policy : (policy : List ℕ) (d : Der) (old new : Spot) → IsPolicyName policy → old ≡ front_of policy → Decodes oid view_oid (Err d) old new → ⊥
no_policy policy d old new named_so start decodes =
    ∥∥₁_elim named_so.1 (λ x y. absurd x)
    (λ k. (let id : List ℕ = k.0 in
    let fits : Fits oid 32 id = (omega arith, omega (arith, named policy named_so.0 id k.2), k.1) in
    let levels : old.levels ≡ 32 = ap (λ (p : Spot). p.levels) start in
    (decodes.only id [] (subst (λ (n : ℕ). Fits oid n id) (sym levels) fits) (ap (λ (p : Spot). p.rest) start ∙ k.2 ∙ sym (append-nil (tlv 6 id)))).0))
