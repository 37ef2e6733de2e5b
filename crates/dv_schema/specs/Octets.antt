-- Comparing encodings, octet by octet.
use Rattle.std.specs.Prelude.{ℕ, ◌<◌, List, [], ◌∷◌, slice_index, nat_lt, Bool, true, false, not, ◌&&◌, ◌||◌, ◌==◌}

-- each is an octet
abbrev pub IsBytes : List ℕ → Type 0
IsBytes bytes = (i : ℕ) → slice_index bytes i < 256

-- the two are the same octets
abbrev pub same_octets : List ℕ → List ℕ → Bool
same_octets [] [] = true
same_octets [] (y ∷ ys) = false
same_octets (x ∷ xs) [] = false
same_octets (x ∷ xs) (y ∷ ys) = (x == y) && same_octets xs ys

-- the octets x are one of these
abbrev pub is_one_of : List (List ℕ) → List ℕ → Bool
is_one_of [] x = false
is_one_of (y ∷ ys) x = same_octets x y || is_one_of ys x

-- none of these is one of those seen, or one of those before it
abbrev pub are_apart : List (List ℕ) → List (List ℕ) → Bool
are_apart seen [] = true
are_apart seen (x ∷ xs) = not (is_one_of seen x) && are_apart (x ∷ seen) xs

-- One encoding is less than another (X.690 11.6): at the first octet where they differ it has the lesser one. No encoding is a
-- proper beginning of another, so it doesn't matter that the standard fills the shorter one up with zeros.
abbrev pub is_less : List ℕ → List ℕ → Bool
is_less [] [] = false
is_less [] (y ∷ ys) = true
is_less (x ∷ xs) [] = false
is_less (x ∷ xs) (y ∷ ys) = nat_lt x y || ((x == y) && is_less xs ys)

-- the first isn't less than x, and no other is less than the one before it
abbrev pub ascends_after : List ℕ → List (List ℕ) → Bool
ascends_after x [] = true
ascends_after x (y ∷ ys) = not (is_less y x) && ascends_after y ys

-- none is less than the one before it
abbrev pub ascends : List (List ℕ) → Bool
ascends [] = true
ascends (x ∷ xs) = ascends_after x xs
