-- What a shelf says of a file.
use Rattle.std.specs.Prelude.{◌<◌, ℕ, List, length, Option, IsSomeAnd}

-- The file is there, and has more octets than the limit.
abbrev pub IsLongerThan : ℕ → Option (List ℕ) → Type 0
IsLongerThan limit file = IsSomeAnd file (λ octets. limit < length octets)
