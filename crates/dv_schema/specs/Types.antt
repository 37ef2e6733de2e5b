-- The types that others are made of.
use Rattle.std.specs.Prelude.{ℕ, Bool, not, nat_le, List, None}
use Rattle.dv_schema.specs.Octets.{same_octets}
use Rattle.dv_schema.specs.Rules.{is_oid, is_bits, is_bool, is_true, is_integer_within, any_octets}
use Rattle.dv_schema.specs.Schema.{Schema, node, whole, such, Body, plain, unsigned, kept, field, done, sequence_of, set_of}

-- any well-formed value
abbrev pub any : Schema
any = whole None

-- any octets, as contents
abbrev pub free : Body
free = plain any_octets

-- octets that pass a test, under a primitive tag
abbrev pub primitive : ℕ → (List ℕ → Bool) → Schema
primitive tag rule = node tag (plain rule)

-- an INTEGER or ENUMERATED from 0 to this most
abbrev pub number_to : ℕ → ℕ → Schema
number_to tag most = node tag (unsigned (λ n. nat_le n most))

-- an INTEGER of at most so many octets, which may be negative
abbrev pub integer : ℕ → Schema
integer limit = primitive 2 (is_integer_within limit)

-- an OBJECT IDENTIFIER
abbrev pub oid : Schema
oid = primitive 6 is_oid

-- an OCTET STRING
abbrev pub octet_string : Schema
octet_string = primitive 4 any_octets

-- a BIT STRING: the count of unused bits, and the octets
abbrev pub bit_string : ℕ → Schema
bit_string tag = primitive tag is_bits

-- a BOOLEAN
abbrev pub boolean : ℕ → Schema
boolean tag = primitive tag is_bool

-- a BOOLEAN whose default is FALSE, where it is present
abbrev pub flag : ℕ → Schema
flag tag = primitive tag is_true

-- a value under an explicit tag
abbrev pub explicit : ℕ → Schema → Schema
explicit tag s = node tag (field s done)

-- other octets than these
abbrev pub is_not : List ℕ → List ℕ → Bool
is_not default octets = not (same_octets octets default)

-- a value other than its default, which is spelled so; a field with a default is `optional (but default s)`
abbrev pub but : List ℕ → Schema → Schema
but default s = such (is_not default) s

-- a SEQUENCE OF under this tag, kept as the octets of its members
abbrev pub list_of : ℕ → Bool → Schema → Schema
list_of tag some s = node tag (kept (sequence_of some s))

-- a SET OF under this tag, whose members ascend, kept as the octets of its members
abbrev pub ordered_of : ℕ → Bool → Schema → Schema
ordered_of tag some s = node tag (kept (set_of some s))
