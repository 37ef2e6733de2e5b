-- Which schemas are clear: each tag has one octet, and what may be absent or chosen is told from what may stand in its place by the
-- tag alone.
use Rattle.std.specs.Prelude.{ℕ, zero, suc, Bool, true, false, ◌&&◌, not, ◌==◌, ◌%◌, List, [], ◌∷◌, ◌++◌, length, Option, Some, None}
use Rattle.std.specs.List.{list_all}
use Rattle.dv_schema.specs.Schema.{Schema, node, tagged, whole, raw, such, choice, Body, plain, unsigned, kept, done, field, optional, keyed, sequence_of, set_of, distinct_of, is_among}

-- the tags of both, or None for any
abbrev pub union : Option (List ℕ) → Option (List ℕ) → Option (List ℕ)
union None y = None
union (Some xs) None = None
union (Some xs) (Some ys) = Some (xs ++ ys)

-- the tags that may begin a value, or None for any
abbrev pub tags_of : Schema → Option (List ℕ)
tags_of (node tag b) = Some (tag ∷ [])
tags_of (tagged tags f) = Some tags
tags_of (whole tags) = tags
tags_of (raw s) = tags_of s
tags_of (such test s) = tags_of s
tags_of (choice a b) = union (tags_of a) (tags_of b)

-- the tags that may begin contents that aren't empty, or None for any
abbrev pub body_tags : Body → Option (List ℕ)
body_tags (plain rule) = None
body_tags (unsigned rule) = None
body_tags (kept b) = body_tags b
body_tags done = Some []
body_tags (field s b) = tags_of s
body_tags (optional s b) = union (tags_of s) (body_tags b)
body_tags (keyed tag rule keys f) = Some (tag ∷ [])
body_tags (sequence_of some s) = tags_of s
body_tags (set_of some s) = tags_of s
body_tags (distinct_of some key tag b also) = Some (tag ∷ [])

-- no tag is among both
abbrev pub disjoint : Option (List ℕ) → Option (List ℕ) → Bool
disjoint None None = false
disjoint None (Some []) = true
disjoint None (Some (y ∷ ys)) = false
disjoint (Some xs) y = list_all (λ t. not (is_among y t)) xs

-- the tag has one octet (X.690 8.1.2.2)
abbrev pub is_low : ℕ → Bool
is_low tag = not (tag % 32 == 31)

-- all numbers up to n pass the test
abbrev pub all_to : ℕ → (ℕ → Bool) → Bool
all_to zero test = test 0
all_to (suc n) test = test (suc n) && all_to n test

abbrev mutual
  -- a schema is clear; of a literal one this computes
  pub is_clear : Schema → Bool
  is_clear (node tag b) = is_low tag && is_clear_body b
  is_clear (tagged tags f) = list_all (λ t. is_low t && is_clear_body (f t)) tags
  is_clear (whole tags) = true
  is_clear (raw s) = is_clear s
  is_clear (such test s) = is_clear s
  is_clear (choice a b) = disjoint (tags_of a) (tags_of b) && (is_clear a && is_clear b)

  -- contents are clear
  pub is_clear_body : Body → Bool
  is_clear_body (plain rule) = true
  is_clear_body (unsigned rule) = true
  is_clear_body (kept b) = is_clear_body b
  is_clear_body done = true
  is_clear_body (field s b) = is_clear s && is_clear_body b
  is_clear_body (optional s b) = disjoint (tags_of s) (body_tags b) && (is_clear s && is_clear_body b)
  is_clear_body (keyed tag rule keys f) = is_low tag && all_to (length keys) (λ i. is_clear_body (f i))
  is_clear_body (sequence_of some s) = is_clear s
  is_clear_body (set_of some s) = is_clear s
  is_clear_body (distinct_of some key tag b also) = is_low tag && (is_clear_body b && is_clear_body also)
