-- One value in DER (X.690): a tag octet, the least definite length octets, and the contents.
use Rattle.std.specs.Prelude.{ℕ, ◌+◌, List, [], ◌∷◌, ◌++◌, length, nat_lt, if◌then◌else◌}
use Rattle.std.specs.Int.Digits.{digits_of}

-- the length octets for contents of n octets, the fewest that say it (X.690 8.1.3.4, 8.1.3.5, 10.1): below 128 the number
-- itself, from there on 128 plus the count of its octets, and then these, the highest first
abbrev pub length_octets : ℕ → List ℕ
length_octets n = if nat_lt n 128 then n ∷ [] else (128 + length (digits_of 256 n)) ∷ digits_of 256 n

-- a whole value: the tag octet, the length octets, and the contents
abbrev pub tlv : ℕ → List ℕ → List ℕ
tlv tag contents = tag ∷ length_octets (length contents) ++ contents

-- the octets of a magnitude as the contents of an INTEGER that isn't negative (X.690 8.3.3): a zero octet stands before a
-- first octet of 128 or more, and alone where there is none
abbrev pub signed_octets : List ℕ → List ℕ
signed_octets [] = 0 ∷ []
signed_octets (b ∷ bs) = if nat_lt b 128 then b ∷ bs else 0 ∷ b ∷ bs

-- the contents of the INTEGER n, the fewest octets that say it (X.690 8.3.2)
abbrev pub integer_octets : ℕ → List ℕ
integer_octets n = signed_octets (digits_of 256 n)
