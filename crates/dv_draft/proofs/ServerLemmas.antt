-- The certificates and the policy of a server.
use Rattle.std.proofs.Common.{◌≡◌, ◌≤◌, ◌<◌, ◌+◌, ◌^◌, is_ok, ◌∷◌, ℕ, zero, suc, Bool, Option, Some, Result, Ok, Err, List, [], length, get_or, inl, inr, refl, sym, ap, subst, arith}
use Rattle.std.specs.Prelude.{All, IsTrue, ◌↔◌}
use Rattle.std.specs.Borrow.{Bor}
use Rattle.std.specs.Option.{ForSome}
use Rattle.std.specs.declared.alloc.Global.{Global}
use Rattle.std.specs.declared.vec.Vec.{Vec}
use Rattle.std.proofs.lemmas.Bool.{cases_lt}
use Rattle.std.proofs.lemmas.List.{length-map}
use Rattle.std.proofs.Math.Logic.{∥∥₁_elim}
use Rattle.dv_schema.specs.declared.refusal.Der.{Der}
use Rattle.dv_schema.specs.Octets.{IsBytes}
use Rattle.dv_schema.specs.Fits.{Fits}
use Rattle.dv_schema.specs.Reading.{read_all}
use Rattle.dv_schema.specs.Types.{oid}
use Rattle.dv_schema.specs.Answers.{Gives}
use Rattle.dv_schema.proofs.Decoding.{slice_takes, slice_spelled}
use Rattle.dv_asn1.specs.Lists.{lists_of}
use Rattle.dv_members.specs.Members.{front_of}
use Rattle.dv_x509.proofs.OwnLemmas.{length-tlv}
use Rattle.dv_draft.specs.Records.{IsCertificate}
use Rattle.dv_draft.specs.Servers.{IsPolicyName}

-- the octets of the vector at an index
pub at_list : (vs : List (Vec ℕ Global)) (i : ℕ) (v : Vec ℕ Global) (d : List ℕ) → i < length vs → v ≡ get_or vs i v → get_or (lists_of vs) i d ≡ v.items
at_list [] i v d lt is = absurd (omega arith)
at_list (x ∷ xs) zero v d lt is = ap (λ (w : Vec ℕ Global). w.items) (sym is)
at_list (x ∷ xs) (suc i) v d lt is = at_list xs i v d (omega arith) is

-- one that is no certificate is among them
pub not_all : (vs : List (Vec ℕ Global)) (i : ℕ) (v : Vec ℕ Global) → i < length vs → v ≡ get_or vs i v → (IsCertificate v.items → ⊥) → All IsCertificate (lists_of vs) → ⊥
not_all vs i v lt is none all =
    let within : i < length (lists_of vs) = simp length-map lt in
    none (subst IsCertificate (at_list vs i v [] lt is) (all i [] within))

-- one more of them is a certificate
pub one_more : (vs : List (Vec ℕ Global)) (i : ℕ) (v : Vec ℕ Global) → i < length vs → v ≡ get_or vs i v → IsCertificate v.items
    → ((k : ℕ) (d : List ℕ) → k < i → IsCertificate (get_or (lists_of vs) k d)) → (k : ℕ) (d : List ℕ) → k < i + 1 → IsCertificate (get_or (lists_of vs) k d)
one_more vs i v lt is here before k d h =
    elim (cases_lt k i) [
      | inl less ↦ before k d less
      | inr past ↦
          let e : i ≡ k = omega arith in
          subst (λ (j : ℕ). IsCertificate (get_or (lists_of vs) j d)) e (subst IsCertificate (sym (at_list vs i v d lt is)) here)
    ]

-- the octets are an identifier alone exactly where one is read of them
pub policy_name : (octets : List ℕ) (r : Result (Bor (List ℕ)) Der) → IsBytes octets → length octets ≤ 2048 → Gives (λ (x : Bor (List ℕ)). x.now) r (read_all oid (front_of octets)) → ((b : Bool) → (b ≡ is_ok r) → IsTrue b ↔ IsPolicyName octets)
policy_name octets (Ok x) bytes short e b same =
    let t = slice_takes oid (front_of octets) x.now bytes e in
    (λ h. (short, ∣ (x.now, t.0.2, t.1) ∣₁), λ h. same)
policy_name octets (Err d) bytes short e b same =
    let no : IsPolicyName octets → ⊥ = λ h. ∥∥₁_elim h.1 (hlevel) (λ k.
    let size : length k.0 < 2 ^ 64 = omega (arith, ap length k.2, length-tlv 6 k.0) in
    let fits : Fits oid 32 k.0 = (omega arith, size, k.1) in
    let f = slice_spelled oid (front_of octets) k.0 refl fits k.2 in
    cc) in
    (λ h. absurd cc, λ h. absurd (no h))

-- a policy that is there is tested so
pub for_policy : (b : Bool) (octets slice : List ℕ) (o : Option (List ℕ)) → o ≡ Some octets → slice ≡ octets → IsTrue b ↔ IsPolicyName slice → IsTrue b ↔ ForSome o IsPolicyName
for_policy b octets slice o is same iff =
    (λ t x e. (let k : slice ≡ x = cc in subst IsPolicyName k (iff.0 t)), λ h. iff.1 (subst IsPolicyName (sym same) (h octets is)))
