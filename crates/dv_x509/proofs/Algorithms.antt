-- Algorithms that are compared octet by octet.
use Rattle.std.proofs.Common.{◌≡◌, ◌&&◌, ℕ, Bool, true, false, Option, Some, None, List, [], ◌∷◌, eqb, refl, ap, ◌∙◌}
use Rattle.std.proofs.lemmas.Bool.{eqb-true}
use Rattle.dv_schema.specs.Octets.{same_octets}
use Rattle.dv_schema.specs.Schema.{ValueOf}
use Rattle.dv_names.specs.Types.{algorithm_identifier}
use Rattle.dv_x509.specs.Judged.{same_algorithm, same_parameters}

-- both tests hold
both : (a b : Bool) → (a && b) ≡ true → (a ≡ true) × (b ≡ true)
both true b e = (refl, e)
both false b e = absurd cc

-- octets that are the same are equal
pub same_is : (xs ys : List ℕ) → same_octets xs ys ≡ true → xs ≡ ys
same_is [] [] e = refl
same_is [] (y ∷ ys) e = absurd cc
same_is (x ∷ xs) [] e = absurd cc
same_is (x ∷ xs) (y ∷ ys) e =
    let t = both (eqb x y) (same_octets xs ys) e in
    ap (λ (z : ℕ). z ∷ xs) (eqb-true x y t.0) ∙ ap (λ (zs : List ℕ). y ∷ zs) (same_is xs ys t.1)

-- so are parameters
parameters_are : (x y : Option (List ℕ)) → same_parameters x y ≡ true → x ≡ y
parameters_are None None e = refl
parameters_are (Some x) (Some y) e = ap (λ (z : List ℕ). Some z) (same_is x y e)
parameters_are None (Some y) e = absurd cc
parameters_are (Some x) None e = absurd cc

-- and algorithms
pub algorithms_are : (a b : ValueOf algorithm_identifier) → same_algorithm a b ≡ true → a ≡ b
algorithms_are a b e =
    let t = both (same_octets a.0 b.0) (same_parameters a.1.0 b.1.0) e in
    let made : List ℕ → Option (List ℕ) → ValueOf algorithm_identifier = λ id p. (id, (p, tt)) in
    ap (λ (id : List ℕ). made id a.1.0) (same_is a.0 b.0 t.0) ∙ ap (made b.0) (parameters_are a.1.0 b.1.0 t.1)
