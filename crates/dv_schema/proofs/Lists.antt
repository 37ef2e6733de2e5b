-- Lists that were read: their members, how many there are, and how long each is.
use Rattle.std.proofs.Common.{◌≡◌, ◌≤◌, ◌&&◌, ℕ, zero, suc, Bool, true, eqb, Some, Result, Ok, List, [], ◌∷◌, length, inl, inr, refl, ap, arith}
use Rattle.std.specs.Prelude.{slice_get}
use Rattle.std.specs.List.{flat_map}
use Rattle.std.proofs.lemmas.List.{length-append}
use Rattle.dv_schema.specs.declared.refusal.Der.{Der}
use Rattle.dv_schema.specs.Schema.{Schema, sequence_of, ValueOf, spelling}
use Rattle.dv_schema.specs.Reading.{Spot, ◌>>=◌, all_at, read, read_fields}
use Rattle.dv_schema.proofs.Tools.{bind_ok, ok_is, passed, chosen}
use Rattle.dv_schema.proofs.Moves.{IsMover}

-- the members of a list that was read
pub members_read : (s : Schema) (some : Bool) (own : ℕ) (p : Spot) (vs : List (ValueOf s)) → read_fields (sequence_of some s) own p ≡ Ok vs → all_at (read s) (length p.rest) p ≡ Ok vs
unfolding read
members_read s some own p vs e = (passed (some && eqb (length p.rest) 0) _ (all_at (read s) (length p.rest) p) vs e).1

-- there are at most as many as octets
pub members_few : {A : Type 0} (f : Spot → Result (A × Spot) Der) → IsMover f → (fuel : ℕ) (p : Spot) (xs : List A) → all_at f fuel p ≡ Ok xs → length xs ≤ length p.rest
unfolding all_at IsMover
members_few f moves zero p xs e = omega (arith, ap length (ok_is [] xs e))
members_few {A} f moves (suc fuel) p xs e =
    elim (chosen (eqb (length p.rest) 0) _ _ (Ok xs) e) [
      | inl h ↦ omega (arith, ap length (ok_is [] xs h.1))
      | inr h ↦
          let a = bind_ok (f p) (λ x. all_at f fuel x.1 >>= λ ys. Ok (x.0 ∷ ys)) xs h.1 in
          let b = bind_ok (all_at f fuel a.0.1) (λ ys. Ok (a.0.0 ∷ ys)) xs a.2 in
          let more = members_few f moves fuel a.0.1 b.0 b.1 in
          let less = (moves p a.0 a.1).less in
          omega (arith, more, less, ap length (ok_is (a.0.0 ∷ b.0) xs b.2))
    ]

-- none is longer than all of them
pub member_short : {A : Type 0} (spell : A → List ℕ) (vs : List A) (i : ℕ) (v : A) → slice_get vs i ≡ Some v → length (spell v) ≤ length (flat_map spell vs)
member_short spell [] i v e = absurd cc
member_short spell (x ∷ xs) zero v e =
    let same : spell x ≡ spell v = cc in
    omega (arith, length-append (spell x) (flat_map spell xs), ap length same)
member_short spell (x ∷ xs) (suc i) v e = omega (arith, length-append (spell x) (flat_map spell xs), member_short spell xs i v e)
