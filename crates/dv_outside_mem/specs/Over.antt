-- Octets over a file.
use Rattle.std.specs.Prelude.{◌+◌, ℕ, List, ◌++◌, length, take, drop}

-- The octets of a file with others from a place on.
abbrev pub over : List ℕ → ℕ → List ℕ → List ℕ
over file place octets = take place file ++ octets ++ drop (place + length octets) file
