-- Keys in ascending order.
use Rattle.std.specs.Prelude.{ℕ, List, map}
use Rattle.std.specs.Borrow.{Bor}
use Rattle.std.specs.Cmp.Lexicographic.{slice_cmp}
use Rattle.std.specs.List.Sorted.{IsSorted}
use Rattle.std.specs.Ordering.{nat_cmp}

-- the keys as lists of octets
abbrev pub keys_of : List (Bor (List ℕ)) → List (List ℕ)
keys_of keys = map (λ k. k.now) keys

-- none is less than the one before it, octet by octet
abbrev pub IsAscending : List (Bor (List ℕ)) → Type 0
IsAscending keys = IsSorted (λ x y. slice_cmp nat_cmp x.now y.now) keys
