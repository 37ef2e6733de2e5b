-- A value that is absent where it is the default.
use Rattle.std.proofs.Common.{◌≡◌, ◌≢◌, ℕ, Bool, true, false, inl, inr, List, [], ◌∷◌, Ok, not, eqb, refl, ap, ◌∙◌}
use Rattle.std.proofs.lemmas.Bool.{cases_Bool, eqb-true}
use Rattle.dv_schema.specs.declared.refusal.Why.TheVariants.{Value}
use Rattle.dv_schema.specs.Octets.{same_octets, IsBytes}
use Rattle.dv_schema.specs.Schema.{Schema, such, ValueOf, spelling}
use Rattle.dv_schema.specs.Types.{but, is_not}
use Rattle.dv_schema.specs.Reading.{Spot, refuse, taken, read}
use Rattle.dv_schema.proofs.Takes.{takes, taken_text, same_self}

-- octets that aren't the same differ
other_octets : (xs ys : List ℕ) → xs ≢ ys → same_octets xs ys ≡ false
other_octets [] [] ne = absurd (ne refl)
other_octets [] (y ∷ ys) ne = refl
other_octets (x ∷ xs) [] ne = refl
other_octets (x ∷ xs) (y ∷ ys) ne =
    elim (cases_Bool (eqb x y)) [
      | inl e ↦ rw e (other_octets xs ys (λ q. ne (ap (λ (z : ℕ). z ∷ xs) (eqb-true x y e) ∙ ap (λ (zs : List ℕ). y ∷ zs) q)))
      | inr f ↦ rw f refl
    ]

-- a value whose octets pass the test
pub such_value : (test : List ℕ → Bool) (s : Schema) (p : Spot) (x : ValueOf s × Spot) → IsBytes p.rest → read s p ≡ Ok x → test (spelling s x.0) ≡ true → read (such test s) p ≡ Ok x
unfolding read
such_value test s p x fits e ok =
    let t = takes s p x fits e in
    let text : taken p x.1 ≡ spelling s x.0 = taken_text p x.1 (spelling s x.0) t.0.octets in
    rw (e, text, ok) refl

-- a value whose octets don't
pub such_fault : (test : List ℕ → Bool) (s : Schema) (p : Spot) (x : ValueOf s × Spot) → IsBytes p.rest → read s p ≡ Ok x → test (spelling s x.0) ≡ false → read (such test s) p ≡ refuse p.place Value
unfolding read
such_fault test s p x fits e bad =
    let t = takes s p x fits e in
    let text : taken p x.1 ≡ spelling s x.0 = taken_text p x.1 (spelling s x.0) t.0.octets in
    rw (e, text, bad) refl

-- a value that is not the default, and one that is
pub but_value : (d : List ℕ) (s : Schema) (p : Spot) (x : ValueOf s × Spot) → IsBytes p.rest → read s p ≡ Ok x → spelling s x.0 ≢ d → read (but d s) p ≡ Ok x
but_value d s p x fits e ne = such_value (is_not d) s p x fits e (ap not (other_octets (spelling s x.0) d ne))

-- a value that is the default, and is spelled out
pub but_fault : (d : List ℕ) (s : Schema) (p : Spot) (x : ValueOf s × Spot) → IsBytes p.rest → read s p ≡ Ok x → spelling s x.0 ≡ d → read (but d s) p ≡ refuse p.place Value
but_fault d s p x fits e is = such_fault (is_not d) s p x fits e (ap (λ (o : List ℕ). not (same_octets o d)) is ∙ ap not (same_self d))
