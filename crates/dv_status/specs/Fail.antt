-- Failure bits and the contents of their BIT STRING (RFC 4210 5.2.3; X.690 8.6, 11.2).
--
-- A set of failure bits is a number of 32 bits in which bit i has the worth 2 ^ (31 - i), so that its octets are those of the number, up
-- to the last one that is not 0.
use Rattle.std.specs.Prelude.{ℕ, Bool, false, ◌+◌, ◌*◌, ◌/◌, ◌%◌, ◌&&◌, ◌==◌, nat_lt, nat_le, List, [], ◌∷◌, if◌then◌else◌}

-- how many bits at the end of an octet are 0
abbrev pub trailing : ℕ → ℕ
trailing b =
    if b % 2 == 1 then 0 else if b % 4 == 2 then 1 else if b % 8 == 4 then 2 else if b % 16 == 8 then 3 else
    if b % 32 == 16 then 4 else if b % 64 == 32 then 5 else if b % 128 == 64 then 6 else 7

-- the last octet has a bit set, and its last one stands right before the unused ones
abbrev pub ends_so : ℕ → ℕ → Bool
ends_so unused last = nat_lt 0 last && (unused == trailing last)

-- contents with at least one bit set, no trailing zero bits, and none above 26
abbrev pub is_fail : List ℕ → Bool
is_fail (u ∷ a ∷ []) = ends_so u a
is_fail (u ∷ a ∷ b ∷ []) = ends_so u b
is_fail (u ∷ a ∷ b ∷ c ∷ []) = ends_so u c
is_fail (u ∷ a ∷ b ∷ c ∷ d ∷ []) = ends_so u d && nat_le 5 u
is_fail _ = false

-- the number of four octets
abbrev pub number_of : ℕ → ℕ → ℕ → ℕ → ℕ
number_of a b c d = a * 16777216 + b * 65536 + c * 256 + d

-- the number that contents spell
abbrev pub fail_bits : List ℕ → ℕ
fail_bits (u ∷ a ∷ []) = number_of a 0 0 0
fail_bits (u ∷ a ∷ b ∷ []) = number_of a b 0 0
fail_bits (u ∷ a ∷ b ∷ c ∷ []) = number_of a b c 0
fail_bits (u ∷ a ∷ b ∷ c ∷ d ∷ []) = number_of a b c d
fail_bits _ = 0

-- the contents that spell a number
abbrev pub fail_octets : ℕ → List ℕ
fail_octets m =
    if m % 16777216 == 0 then trailing (m / 16777216) ∷ m / 16777216 ∷ [] else
    if m % 65536 == 0 then trailing (m / 65536 % 256) ∷ m / 16777216 ∷ m / 65536 % 256 ∷ [] else
    if m % 256 == 0 then trailing (m / 256 % 256) ∷ m / 16777216 ∷ m / 65536 % 256 ∷ m / 256 % 256 ∷ [] else
    trailing (m % 256) ∷ m / 16777216 ∷ m / 65536 % 256 ∷ m / 256 % 256 ∷ m % 256 ∷ []
