-- Octets that are compared one by one.
use Rattle.std.proofs.Common.{◌≡◌, ◌∙◌, ℕ, true, eqb, List, [], ◌∷◌, refl, ap}
use Rattle.std.proofs.lemmas.Bool.{and_from, and_parts, eq-eqb, eqb-true}
use Rattle.dv_schema.specs.Octets.{same_octets}

-- octets that are the same are equal
pub same_is : (xs ys : List ℕ) → same_octets xs ys ≡ true → xs ≡ ys
same_is [] [] e = refl
same_is [] (y ∷ ys) e = absurd cc
same_is (x ∷ xs) [] e = absurd cc
same_is (x ∷ xs) (y ∷ ys) e =
    let t = and_parts (eqb x y) (same_octets xs ys) e in
    ap (λ (z : ℕ). z ∷ xs) (eqb-true x y t.0) ∙ ap (λ (zs : List ℕ). y ∷ zs) (same_is xs ys t.1)

-- octets are the same as themselves
same_self : (xs : List ℕ) → same_octets xs xs ≡ true
same_self [] = refl
same_self (x ∷ xs) = and_from (eqb x x) (same_octets xs xs) (eq-eqb x x refl) (same_self xs)

-- equal octets are the same
pub is_same : (xs ys : List ℕ) → xs ≡ ys → same_octets xs ys ≡ true
is_same xs ys e = rw e (same_self ys)
