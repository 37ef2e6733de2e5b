-- What a step that did not fail says.
use Rattle.std.proofs.Common.{◌≡◌, ℕ, suc, ◌+◌, ◌⊎◌, Bool, true, false, cond, Result, Ok, Err, List, ◌∷◌, take, drop, refl, inl, inr, arith}
use Rattle.std.proofs.lemmas.Bool.{cases_lt}
use Rattle.std.proofs.lemmas.List.{get_or-drop, get_or-take, get_or_past, length-take}
use Rattle.dv_schema.specs.declared.refusal.Der.{Der}
use Rattle.dv_schema.specs.Reading.{◌>>=◌}
pub use Rattle.dv_schema.specs.Octets.{IsBytes}

-- a step that gave an answer had one to go on from
pub bind_ok : {A B : Type 0} (r : Result A Der) (f : A → Result B Der) (y : B) → (r >>= f) ≡ Ok y → (x : A) × (r ≡ Ok x) × (f x ≡ Ok y)
bind_ok (Ok x) f y e = (x, refl, e)
bind_ok (Err d) f y e = absurd cc

-- an answer
abbrev done : {A : Type 0} → A → Result A Der
done x = Ok x

-- two answers that are the same
pub ok_is : {A : Type 0} (x y : A) → done x ≡ done y → x ≡ y
ok_is x y e = cc

-- a test that did not refuse
pub passed : {A : Type 0} (b : Bool) (d : Der) (r : Result A Der) (y : A) → cond b (Err d) r ≡ Ok y → (b ≡ false) × (r ≡ Ok y)
passed true d r y e = absurd cc
passed false d r y e = (refl, e)

-- a test that allowed
pub allowed : {A : Type 0} (b : Bool) (d : Der) (r : Result A Der) (y : A) → cond b r (Err d) ≡ Ok y → (b ≡ true) × (r ≡ Ok y)
allowed true d r y e = (refl, e)
allowed false d r y e = absurd cc

-- which of two was chosen
pub chosen : {A : Type 0} (b : Bool) (x y z : A) → cond b x y ≡ z → ((b ≡ true) × (x ≡ z)) ⊎ ((b ≡ false) × (y ≡ z))
chosen true x y z e = inl (refl, e)
chosen false x y z e = inr (refl, e)

-- octets behind some are octets
pub IsBytes-drop : (n : ℕ) (bytes : List ℕ) → IsBytes bytes → IsBytes (drop n bytes)
IsBytes-drop n bytes h i = rw get_or-drop (h (n + i))

-- octets in front are octets
pub IsBytes-take : (n : ℕ) (bytes : List ℕ) → IsBytes bytes → IsBytes (take n bytes)
IsBytes-take n bytes h i =
    elim (cases_lt i n) [
      | inl lt ↦ rw (get_or-take n bytes i 0 lt) (h i)
      | inr le ↦ rw (get_or_past (take n bytes) i 0 (omega (arith, length-take n bytes))) (omega arith)
    ]

-- octets behind the first are octets
pub IsBytes-rest : (b : ℕ) (bytes : List ℕ) → IsBytes (b ∷ bytes) → IsBytes bytes
IsBytes-rest b bytes h i = h (suc i)
