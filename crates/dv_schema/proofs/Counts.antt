-- Going over the members of a list: counting them, and finding one by its place.
use Rattle.std.proofs.Common.{◌≡◌, ℕ, suc, ◌+◌, ◌<◌, Bool, true, false, ◌&&◌, eqb, Result, Ok, Err, List, [], ◌∷◌, length, refl, sym, ap, ◌∙◌, arith}
use Rattle.std.proofs.lemmas.Bool.{eqb-true}
use Rattle.dv_schema.specs.declared.refusal.Der.{Der}
use Rattle.dv_schema.specs.declared.refusal.Why.TheVariants.{Value}
use Rattle.dv_schema.specs.Schema.{Schema, sequence_of, ValueOf}
use Rattle.dv_schema.specs.Reading.{Spot, ◌>>=◌, refuse, all_at, read, read_fields}
use Rattle.dv_schema.specs.Answers.{counted, Passes, skipped}
use Rattle.dv_schema.proofs.Moves.{read_moves, moves, skip_err}
use Rattle.dv_schema.proofs.Orders.{all_one}
use Rattle.dv_schema.proofs.Tools.{bind_ok, ok_is}

-- what a call passed was read
pub passed_value : {Y : Type 0} (u : Unit {0}) (old new : Spot) (r : Result (Y × Spot) Der) → Passes (Ok u) old new r → (x : Y × Spot) × (r ≡ Ok x) × (x.1 ≡ new)
passed_value u old new (Ok x) h = (x, refl, h)
passed_value u old new (Err e) h = absurd h

-- a first member is one more
front : {A : Type 0} (n : ℕ) (x : A) (r : Result (List A) Der) → counted n (r >>= λ xs. Ok (x ∷ xs)) ≡ counted (n + 1) r
front n x (Ok xs) = let e : n + suc (length xs) ≡ n + 1 + length xs = omega arith in ap (λ (k : ℕ). Ok k) e
front n x (Err d) = refl

-- one turn of a loop that counts members
pub count_one : (s : Schema) (n : ℕ) (p q : Spot) → eqb (length p.rest) 0 ≡ false → Passes (Ok tt) p q (read s p)
    → (counted n (all_at (read s) (length p.rest) p) ≡ counted (n + 1) (all_at (read s) (length q.rest) q)) × (length q.rest < length p.rest)
count_one s n p q some h =
    let v = passed_value tt p q (read s p) h in
    let rest : length v.0.1.rest ≡ length q.rest = ap (λ (z : Spot). length z.rest) v.2 in (
      ap (counted n) (all_one (read s) p v.0 (read_moves s) some v.1) ∙ front n v.0.0 (all_at (read s) (length v.0.1.rest) v.0.1) ∙ ap (λ (z : Spot). counted (n + 1) (all_at (read s) (length z.rest) z)) v.2,
      omega (arith, (moves s p v.0 v.1).less),
    )

-- a list that is refused isn't counted
counted_err : {A : Type 0} (n : ℕ) (r : Result (List A) Der) (d : Der) → skipped r ≡ Err d → counted n r ≡ Err d
counted_err n (Ok xs) d e = absurd cc
counted_err n (Err b) d e = cc

-- a loop that counts ends at the first member that is refused
pub count_err : (s : Schema) (n : ℕ) (p : Spot) (d : Der) → eqb (length p.rest) 0 ≡ false → read s p ≡ Err d → counted n (all_at (read s) (length p.rest) p) ≡ Err d
count_err s n p d some e = counted_err n (all_at (read s) (length p.rest) p) d (skip_err (read s) p d some e)

-- and where nothing is left
pub count_end : (s : Schema) (n : ℕ) (p : Spot) → eqb (length p.rest) 0 ≡ true → counted n (all_at (read s) (length p.rest) p) ≡ Ok n
unfolding all_at
count_end s n p none =
    let z : n + 0 ≡ n = omega arith in
    ap (λ (k : ℕ). counted n (all_at (read s) k p)) (eqb-true _ _ none) ∙ ap (λ (k : ℕ). Ok k) z

-- a list that may be empty, or isn't, is read as its members are
pub members : (s : Schema) (some : Bool) (own : ℕ) (p : Spot) → (some && eqb (length p.rest) 0) ≡ false → read_fields (sequence_of some s) own p ≡ all_at (read s) (length p.rest) p
unfolding read
members s some own p h = rw h refl

-- a list that needs a member and has none is refused
pub members_none : (s : Schema) (some : Bool) (own : ℕ) (p : Spot) → some ≡ true → eqb (length p.rest) 0 ≡ true → read_fields (sequence_of some s) own p ≡ refuse own Value
unfolding read
members_none s some own p h none = rw (h, none) refl

-- a list that is read, by its first member
pub member_turn : (s : Schema) (p : Spot) (x : ValueOf s × Spot) (vs : List (ValueOf s)) → eqb (length p.rest) 0 ≡ false → read s p ≡ Ok x → all_at (read s) (length p.rest) p ≡ Ok vs
    → (ws : List (ValueOf s)) × (all_at (read s) (length x.1.rest) x.1 ≡ Ok ws) × (x.0 ∷ ws ≡ vs)
member_turn s p x vs some e all =
    let b = bind_ok (all_at (read s) (length x.1.rest) x.1) (λ xs. Ok (x.0 ∷ xs)) vs (sym (all_one (read s) p x (read_moves s) some e) ∙ all) in
    (b.0, b.1, ok_is (x.0 ∷ b.0) vs b.2)

-- no member of a list that was read is refused
pub member_fault : (s : Schema) (p : Spot) (d : Der) (vs : List (ValueOf s)) → eqb (length p.rest) 0 ≡ false → read s p ≡ Err d → all_at (read s) (length p.rest) p ≡ Ok vs → ⊥
member_fault s p d vs some e all =
    let bad = skip_err (read s) p d some e in
    let good = ap skipped all in absurd cc

-- where nothing is left, a list that was read has no member
pub member_none : (s : Schema) (p : Spot) (vs : List (ValueOf s)) → eqb (length p.rest) 0 ≡ true → all_at (read s) (length p.rest) p ≡ Ok vs → [] ≡ vs
unfolding all_at
member_none s p vs none all = ok_is [] vs (sym (ap (λ (k : ℕ). all_at (read s) k p) (eqb-true _ _ none)) ∙ all)
