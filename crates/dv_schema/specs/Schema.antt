-- The schemas of types, the values of a schema, and the one spelling of each value.
--
-- A schema is one line of a table of types. `ValueOf` gives the values that it has, and `spelling` the octets of each value, as
-- X.690 has them under the distinguished rules: the tag, the least length octets, and the spellings of the fields that are there.
use Rattle.std.specs.Prelude.{◌⊎◌, ℕ, suc, Bool, true, ◌||◌, ◌==◌, if◌then◌else◌, List, [], ◌∷◌, ◌++◌, Option, Some, None}
use Rattle.std.proofs.Common.{inl, inr}
use Rattle.std.specs.List.{flat_map, list_any}
use Rattle.dv_schema.specs.Tlv.{tlv, integer_octets}
use Rattle.dv_schema.specs.Octets.{same_octets}

mutual
  -- one value
  pub data Schema : Type 0 where
    -- this tag, and these contents. In a primitive tag the levels are counted anew, so a `node` with one field is an OCTET STRING that
    -- holds a value under tag 4, and an explicit tag under tag A0.
    node : (tag : ℕ) → Body → Schema
    -- one of these tags, and contents that go by it; the value is the tag and what the contents are
    tagged : (tags : List ℕ) → (ℕ → Body) → Schema
    -- any well-formed value, with one of these tags where they are given; the value is its octets
    whole : (tags : Option (List ℕ)) → Schema
    -- a value of the schema, kept as its octets
    raw : Schema → Schema
    -- a value of the schema whose octets pass a test
    such : (test : List ℕ → Bool) → Schema → Schema
    -- a CHOICE: a value of the first schema, or of the second
    choice : Schema → Schema → Schema

  -- the contents of one value
  pub data Body : Type 0 where
    -- octets that pass a test
    plain : (rule : List ℕ → Bool) → Body
    -- those of an INTEGER or ENUMERATED that isn't negative and passes a test
    unsigned : (rule : ℕ → Bool) → Body
    -- such contents, kept as their octets
    kept : Body → Body
    -- nothing more
    done : Body
    -- a field, and then more
    field : Schema → Body → Body
    -- a field that may be absent, and then more
    optional : Schema → Body → Body
    -- a primitive field, and then what its place among the keys says; past the last key it is none of them
    keyed : (tag : ℕ) → (rule : List ℕ → Bool) → (keys : List (List ℕ)) → (ℕ → Body) → Body
    -- a SEQUENCE OF: any number of values, or at least one
    sequence_of : (some : Bool) → Schema → Body
    -- a SET OF: the same, in ascending order of their octets
    set_of : (some : Bool) → Schema → Body
    -- Any number of values with this tag, or at least one, of which no two have the same key. Their contents are of the first body and
    -- of the second one too; the value is what they are by the first. The key is a function of the contents' octets.
    distinct_of : (some : Bool) → (key : List ℕ → List ℕ) → (tag : ℕ) → Body → Body → Body

-- the place of octets among the keys, or how many keys there are
abbrev pub key_place : List (List ℕ) → List ℕ → ℕ
key_place [] c = 0
key_place (k ∷ ks) c = if same_octets c k then 0 else suc (key_place ks c)

-- ---- the values of a schema

abbrev mutual
  -- a value
  pub ValueOf : Schema → Type 0
  ValueOf (node tag b) = FieldsOf b
  ValueOf (tagged tags f) = (tag : ℕ) × FieldsOf (f tag)
  ValueOf (whole tags) = List ℕ
  ValueOf (raw s) = List ℕ
  ValueOf (such test s) = ValueOf s
  ValueOf (choice s t) = ValueOf s ⊎ ValueOf t

  -- what contents are
  pub FieldsOf : Body → Type 0
  FieldsOf (plain rule) = List ℕ
  FieldsOf (unsigned rule) = ℕ
  FieldsOf (kept b) = List ℕ
  FieldsOf done = Unit {0}
  FieldsOf (field s b) = ValueOf s × FieldsOf b
  FieldsOf (optional s b) = Option (ValueOf s) × FieldsOf b
  FieldsOf (keyed tag rule keys f) = (c : List ℕ) × FieldsOf (f (key_place keys c))
  FieldsOf (sequence_of some s) = List (ValueOf s)
  FieldsOf (set_of some s) = List (ValueOf s)
  FieldsOf (distinct_of some key tag b also) = List (FieldsOf b)

-- ---- the spelling of a value

-- nothing where it is absent
abbrev pub spelled_if : {A : Type 0} → (A → List ℕ) → Option A → List ℕ
spelled_if f None = []
spelled_if f (Some x) = f x

-- the spelling of the one that it is
abbrev pub spelled_one : {A B : Type 0} → (A → List ℕ) → (B → List ℕ) → A ⊎ B → List ℕ
spelled_one f g (inl x) = f x
spelled_one f g (inr y) = g y

abbrev mutual
  -- a whole value
  pub spelling : (s : Schema) → ValueOf s → List ℕ
  spelling (node tag b) v = tlv tag (contents b v)
  spelling (tagged tags f) v = tlv v.0 (contents (f v.0) v.1)
  spelling (whole tags) v = v
  spelling (raw s) v = v
  spelling (such test s) v = spelling s v
  spelling (choice s t) v = spelled_one (spelling s) (spelling t) v

  -- the spellings of the fields that are present, in order
  pub contents : (b : Body) → FieldsOf b → List ℕ
  contents (plain rule) v = v
  contents (unsigned rule) v = integer_octets v
  contents (kept b) v = v
  contents done v = []
  contents (field s b) v = spelling s v.0 ++ contents b v.1
  contents (optional s b) v = spelled_if (spelling s) v.0 ++ contents b v.1
  contents (keyed tag rule keys f) v = tlv tag v.0 ++ contents (f (key_place keys v.0)) v.1
  contents (sequence_of some s) v = flat_map (spelling s) v
  contents (set_of some s) v = flat_map (spelling s) v
  contents (distinct_of some key tag b also) v = flat_map (λ x. tlv tag (contents b x)) v

-- ---- the tags of a schema

-- the tag is one of these, where they are given
abbrev pub is_among : Option (List ℕ) → ℕ → Bool
is_among None t = true
is_among (Some ts) t = list_any (λ u. t == u) ts

-- a value of the schema may begin with the tag
abbrev pub starts : Schema → ℕ → Bool
starts (node tag b) t = t == tag
starts (tagged tags f) t = is_among (Some tags) t
starts (whole tags) t = is_among tags t
starts (raw s) t = starts s t
starts (such test s) t = starts s t
starts (choice a b) t = starts a t || starts b t
