-- The keys of the members of a list, and the first that repeats one.
use Rattle.std.specs.Prelude.{◌≡◌, ◌↔◌, ◌≤◌, ℕ, true, List, [], ◌∷◌, length, Option, None, Some}
use Rattle.dv_schema.specs.Octets.{are_apart}
use Rattle.dv_schema.specs.Reading.{Spot}

-- the key of the member that begins at a spot, and the spot behind it
abbrev pub Turn : Type 0
Turn = Spot → Option (List ℕ × Spot)

-- the keys of the members between two spots, in order
abbrev pub AreKeys : Turn → List (List ℕ) → Spot → Spot → Type 0
AreKeys turn [] p q = p ≡ q
AreKeys turn (k ∷ ks) p q = (m : Spot) × (turn p ≡ Some (k, m)) × AreKeys turn ks m q

-- No two of these keys are the same; where the member of a number is the first that repeats one, that is so exactly where they are no more than
-- that number.
abbrev pub AreApartUpTo : List (List ℕ) → Option ℕ → Type 0
AreApartUpTo ks None = are_apart [] ks ≡ true
AreApartUpTo ks (Some first) = (are_apart [] ks ≡ true) ↔ (length ks ≤ first)
