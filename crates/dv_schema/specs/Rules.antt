-- What the contents of a primitive value may be.
use Rattle.std.specs.Prelude.{ℕ, ◌-◌, ◌%◌, ◌^◌, Bool, true, false, ◌&&◌, ◌||◌, not, List, [], ◌∷◌, length, slice_index, nat_lt, nat_le, ◌==◌, if◌then◌else◌, Option, Some, None}
use Rattle.std.specs.Int.Digits.{number_from_digits}

-- any octets
abbrev pub any_octets : List ℕ → Bool
any_octets bs = true

-- a BOOLEAN (X.690 8.2, 11.1): 00 or FF
abbrev pub is_bool : List ℕ → Bool
is_bool [] = false
is_bool (b ∷ []) = (b == 0) || (b == 255)
is_bool (b ∷ c ∷ cs) = false

-- the BOOLEAN TRUE: FF
abbrev pub is_true : List ℕ → Bool
is_true [] = false
is_true (b ∷ []) = b == 255
is_true (b ∷ c ∷ cs) = false

-- a NULL (X.690 8.8): nothing
abbrev pub is_null : List ℕ → Bool
is_null bs = length bs == 0

-- an INTEGER or ENUMERATED (X.690 8.3, 8.4): at least one octet, and the first nine bits aren't all alike
abbrev pub is_integer : List ℕ → Bool
is_integer [] = false
is_integer (b ∷ []) = true
is_integer (b ∷ c ∷ cs) = not ((b == 0) && nat_lt c 128) && not ((b == 255) && nat_le 128 c)

-- one of at most so many octets, which may be negative
abbrev pub is_integer_within : ℕ → List ℕ → Bool
is_integer_within limit c = is_integer c && nat_le (length c) limit

-- the first octet, or 0
abbrev pub first_or : List ℕ → ℕ
first_or [] = 0
first_or (b ∷ bs) = b

-- an INTEGER or ENUMERATED that isn't negative and whose number passes a test
abbrev pub is_number : (ℕ → Bool) → List ℕ → Bool
is_number rule contents = is_integer contents && nat_lt (first_or contents) 128 && rule (number_from_digits 256 contents)

-- Arcs in groups of seven bits (X.690 8.19.2): the last octet of each is below 128, the others aren't, and none begins with 80.
-- `fresh` says that the next octet begins an arc.
abbrev pub are_arcs : Bool → List ℕ → Bool
are_arcs fresh [] = fresh
are_arcs fresh (b ∷ bs) = not (fresh && (b == 128)) && are_arcs (nat_lt b 128) bs

-- an OBJECT IDENTIFIER (X.690 8.19): arcs, at least one
abbrev pub is_oid : List ℕ → Bool
is_oid [] = false
is_oid (b ∷ bs) = are_arcs true (b ∷ bs)

-- a BIT STRING (X.690 8.6, 11.2.1): how many bits of the last octet are unused, at most 7, all of them zero; none where there
-- is no octet
abbrev pub is_bits : List ℕ → Bool
is_bits [] = false
is_bits (unused ∷ bs) =
    if length bs == 0 then unused == 0 else
    nat_lt unused 8 && (slice_index bs (length bs - 1) % (2 ^ unused) == 0)

-- The rule for a primitive tag inside a value of any type: BOOLEAN, INTEGER, BIT STRING, NULL, OBJECT IDENTIFIER, ENUMERATED,
-- and any octets for other tags.
abbrev pub is_allowed : ℕ → List ℕ → Bool
is_allowed tag contents =
    if tag == 1 then is_bool contents else
    if tag == 2 then is_integer contents else
    if tag == 3 then is_bits contents else
    if tag == 5 then is_null contents else
    if tag == 6 then is_oid contents else
    if tag == 10 then is_integer contents else true

-- the contents of a BOOLEAN
abbrev pub bool_octets : Bool → List ℕ
bool_octets true = 255 ∷ []
bool_octets false = 0 ∷ []

-- the contents of a BOOLEAN whose default is FALSE, where it is present
abbrev pub flag_octets : Bool → Option (List ℕ)
flag_octets true = Some (255 ∷ [])
flag_octets false = None
