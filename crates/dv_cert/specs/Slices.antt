-- What lists of slices hold.
use Rattle.std.specs.Prelude.{ℕ, List, map}
use Rattle.std.specs.Borrow.{Bor}

-- the octets of each slice
abbrev pub octets_of : List (Bor (List ℕ)) → List (List ℕ)
octets_of slices = map (λ s. s.now) slices
