-- Which values have a spelling.
--
-- A value fits where each field is what its schema says and no value in its spelling lies too deep: `levels` is how many levels are
-- left, 32 for an outermost value.
use Rattle.std.specs.Prelude.{◌≡◌, ◌≢◌, ◌⊎◌, ℕ, zero, suc, ◌-◌, ◌<◌, ◌^◌, ◌/◌, ◌%◌, Bool, ◌||◌, ◌&&◌, not, ◌==◌, IsTrue, if◌then◌else◌, List, [], ◌∷◌, length, map, Option, Some, None, IfSome}
use Rattle.std.proofs.Common.{inl, inr}
use Rattle.std.specs.List.{concat, AllByRecursion}
use Rattle.dv_schema.specs.Tlv.{tlv}
use Rattle.dv_schema.specs.Octets.{ascends, are_apart}
use Rattle.dv_schema.specs.Rules.{is_allowed}
use Rattle.dv_schema.specs.Schema.{Schema, node, tagged, whole, raw, such, choice, Body, plain, unsigned, kept, done, field, optional, keyed, sequence_of, set_of, distinct_of, ValueOf, FieldsOf, spelling, contents, is_among, key_place}

-- the tag may begin a value of any type, and is one of these; SEQUENCE and SET have no primitive form
abbrev pub is_tag : Option (List ℕ) → ℕ → Bool
is_tag tags t = is_among tags t && not ((t == 16) || (t == 17))

-- A well-formed value (X.690), where so many levels are left: the tag number is below 31, and the contents are allowed. Under a
-- constructed tag they are well-formed values one after another, with one level less; under a primitive one they pass its rule.
abbrev pub WellFormed : ℕ → List ℕ → Type 0
WellFormed zero b = ⊥
WellFormed (suc levels) b = (tag : ℕ) × (c : List ℕ) × (b ≡ tlv tag c) × (tag % 32 ≢ 31) × IsTrue (is_tag None tag) × (length c < 2 ^ 64)
    × (((tag / 32 % 2 ≢ 1) × IsTrue (is_allowed tag c)) ⊎ ((tag / 32 % 2 ≡ 1) × (parts : List (List ℕ)) × (c ≡ concat parts) × AllByRecursion (WellFormed levels) parts))

-- the tag octet of a value
abbrev pub tag_of : List ℕ → ℕ
tag_of [] = 0
tag_of (t ∷ ts) = t

-- the levels that are left inside a value with this tag: in a primitive one they are counted anew
abbrev pub inner : ℕ → ℕ → ℕ
inner tag levels = if tag / 32 % 2 == 1 then levels else 32

-- Such contents under this tag, where so many levels are left. A length takes at most eight octets.
abbrev pub FitsIn : ℕ → ℕ → List ℕ → (ℕ → Type 0) → Type 0
FitsIn tag levels c inside = (0 < levels) × (length c < 2 ^ 64) × inside (inner tag (levels - 1))

-- what holds of the one that it is
abbrev pub FitsOne : {A B : Type 0} → (A → Type 0) → (B → Type 0) → A ⊎ B → Type 0
FitsOne P Q (inl x) = P x
FitsOne P Q (inr y) = Q y

abbrev mutual
  -- a value has a spelling, where so many levels are left
  pub Fits : (s : Schema) → ℕ → ValueOf s → Type 0
  Fits (node tag b) levels v = FitsIn tag levels (contents b v) (λ n. FieldsFit b n v)
  Fits (tagged tags f) levels v = IsTrue (is_among (Some tags) v.0) × FitsIn v.0 levels (contents (f v.0) v.1) (λ n. FieldsFit (f v.0) n v.1)
  Fits (whole tags) levels v = WellFormed levels v × IsTrue (is_among tags (tag_of v))
  Fits (raw s) levels v = (w : ValueOf s) × (v ≡ spelling s w) × Fits s levels w
  Fits (such test s) levels v = Fits s levels v × IsTrue (test (spelling s v))
  Fits (choice a b) levels v = FitsOne (Fits a levels) (Fits b levels) v

  -- contents have a spelling, where so many levels are left inside
  pub FieldsFit : (b : Body) → ℕ → FieldsOf b → Type 0
  FieldsFit (plain rule) levels v = IsTrue (rule v)
  FieldsFit (unsigned rule) levels v = IsTrue (rule v)
  FieldsFit (kept b) levels v = (w : FieldsOf b) × (v ≡ contents b w) × FieldsFit b levels w
  FieldsFit done levels v = Unit {0}
  FieldsFit (field s b) levels v = Fits s levels v.0 × FieldsFit b levels v.1
  FieldsFit (optional s b) levels v = IfSome v.0 (Fits s levels) × FieldsFit b levels v.1
  FieldsFit (keyed tag rule keys f) levels v = FitsIn tag levels v.0 (λ _. IsTrue (rule v.0)) × FieldsFit (f (key_place keys v.0)) levels v.1
  FieldsFit (sequence_of some s) levels v = (IsTrue some → v ≢ []) × AllByRecursion (Fits s levels) v
  FieldsFit (set_of some s) levels v = (IsTrue some → v ≢ []) × AllByRecursion (Fits s levels) v × IsTrue (ascends (map (spelling s) v))
  FieldsFit (distinct_of some key tag b also) levels v = (IsTrue some → v ≢ [])
      × AllByRecursion (λ x. FitsIn tag levels (contents b x) (λ n. FieldsFit b n x × ((w : FieldsOf also) × (contents b x ≡ contents also w) × FieldsFit also n w))) v
      × IsTrue (are_apart [] (map (λ x. key (contents b x)) v))
