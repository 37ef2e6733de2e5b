-- Lists of slices.
use Rattle.std.specs.Prelude.{ℕ, List, map, option_map, Option}
use Rattle.std.specs.Borrow.{Bor}
use Rattle.std.specs.declared.alloc.Global.{Global}
use Rattle.std.specs.declared.vec.Vec.{Vec}

-- the octets of each slice
abbrev pub octets_of : List (Bor (List ℕ)) → List (List ℕ)
octets_of slices = map (λ s. s.now) slices

-- the same, where there are slices
abbrev pub octets_if : Option (Vec (Bor (List ℕ)) Global) → Option (List (List ℕ))
octets_if o = option_map (λ v. octets_of v.items) o
