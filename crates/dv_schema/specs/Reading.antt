-- Reading octets by a schema, from left to right, with the first refusal that is met.
--
-- The checks of one value come in this order. No octet is left in the enclosing value: End, at its end. The tag isn't allowed here:
-- Tag. Length octets are missing: End. The length isn't the least one, or too long: Length. The contents go past the enclosing
-- value: End. No level is left: Depth. Then the contents: Value, the refusals of the members in order, Trailing at the first octet
-- that no member takes, and Order at the first member of a set that is less than the one before it. But for these last two and for
-- what members answer, the place is the value's own.
use Rattle.std.specs.Prelude.{ℕ, zero, suc, ◌+◌, ◌-◌, ◌/◌, ◌%◌, Bool, true, false, ◌||◌, ◌&&◌, not, ◌==◌, nat_lt, if◌then◌else◌, List, [], ◌∷◌, length, map, take, drop, Option, Some, None, Result, Ok, Err}
use Rattle.std.proofs.Common.{inl, inr}
use Rattle.std.specs.Int.Digits.{number_from_digits}
use Rattle.dv_schema.specs.declared.refusal.Der.{Der}
use Rattle.dv_schema.specs.declared.refusal.Why.{Why}
use Rattle.dv_schema.specs.declared.refusal.Why.TheVariants.{End, Tag, Length, Value, Order, Trailing, Depth}
use Rattle.dv_schema.specs.Octets.{is_less, is_one_of}
use Rattle.dv_schema.specs.Rules.{is_allowed, first_or, is_number}
use Rattle.dv_schema.specs.Schema.{Schema, node, tagged, whole, raw, such, choice, Body, plain, unsigned, kept, done, field, optional, keyed, sequence_of, set_of, distinct_of, ValueOf, FieldsOf, spelling, is_among, starts, key_place}
use Rattle.dv_schema.specs.Fits.{is_tag, inner}

-- where a reader stands: how many levels are left, the place of the next octet, and the octets up to the end of the enclosing value
pub record Spot : Type 0 where
  pub levels : ℕ
  pub place : ℕ
  pub rest : List ℕ

-- goes on where the first didn't refuse
infixl 10 ◌>>=◌
abbrev pub ◌>>=◌ : {A B : Type 0} → Result A Der → (A → Result B Der) → Result B Der
(Ok x) >>= f = f x
(Err e) >>= f = Err e

-- a refusal
abbrev pub refuse : {A : Type 0} → ℕ → Why → Result A Der
refuse place why = Err (record { place = place; why = why })

-- the octets between two spots
abbrev pub taken : Spot → Spot → List ℕ
taken p q = take (length p.rest - length q.rest) p.rest

-- ---- one value

-- a value that was found: its tag, a spot over its contents, and the spot behind it
pub record Item : Type 0 where
  pub tag : ℕ
  pub inside : Spot
  pub after : Spot

-- The length that stands behind the tag octet of the value at this place, and how many octets spell it: below 128 one octet, else one
-- that says how many more, 1 to 8, and these.
abbrev pub length_at : ℕ → List ℕ → Result (ℕ × ℕ) Der
length_at place [] = refuse place End
length_at place (first ∷ more) =
    if nat_lt first 128 then Ok (first, 1) else
    if (first == 128) || nat_lt 136 first then refuse place Length else
    if nat_lt (length more) (first - 128) then refuse place End else
    if (first_or more == 0) || nat_lt (number_from_digits 256 (take (first - 128) more)) 128 then refuse place Length else
    Ok (number_from_digits 256 (take (first - 128) more), 1 + (first - 128))

-- the value, from its length and how many octets spell it
abbrev pub sized_at : Spot → ℕ → List ℕ → ℕ × ℕ → Result Item Der
sized_at p tag more n =
    if nat_lt (length more) (n.1 + n.0) then refuse p.place End else
    if p.levels == 0 then refuse p.place Depth else
    Ok (record {
      tag = tag;
      inside = record { levels = p.levels - 1; place = p.place + (1 + n.1); rest = take n.0 (drop n.1 more) };
      after = record { levels = p.levels; place = p.place + (1 + n.1 + n.0); rest = drop (n.1 + n.0) more };
    })

-- the value at a spot whose tag octet was read
abbrev pub sizes_at : Spot → ℕ → List ℕ → Result Item Der
sizes_at p tag more = length_at p.place more >>= λ n. sized_at p tag more n

-- the value that these octets begin
abbrev pub tagged_at : (ℕ → Bool) → Spot → List ℕ → Result Item Der
tagged_at allowed p [] = refuse p.place End
tagged_at allowed p (tag ∷ more) =
    if not (allowed tag) || (tag % 32 == 31) then refuse p.place Tag else
    sizes_at p tag more

-- the value at a spot, whose tag is allowed
unfoldable pub item_at : (ℕ → Bool) → Spot → Result Item Der
item_at allowed p = tagged_at allowed p p.rest

-- a spot over the contents of an item, with the levels that are left there
abbrev pub within : Item → Spot
within i = record { levels = inner i.tag i.inside.levels; place = i.inside.place; rest = i.inside.rest }

-- this tag, and no other
abbrev pub is_tag_of : ℕ → ℕ → Bool
is_tag_of tag t = t == tag

-- ---- values one after another, to the end of the enclosing value

-- what f reads, again and again; the fuel is at least the number of octets
unfoldable pub all_at : {A : Type 0} → (Spot → Result (A × Spot) Der) → ℕ → Spot → Result (List A) Der
all_at f zero p = Ok []
all_at f (suc fuel) p =
    if length p.rest == 0 then Ok [] else
    (f p >>= λ x. all_at f fuel x.1 >>= λ xs. Ok (x.0 ∷ xs))

-- the first of these values, one after another from a place on, that is less than the one before it
abbrev pub order_after : ℕ → List ℕ → List (List ℕ) → Result (Unit {0}) Der
order_after place x [] = Ok tt
order_after place x (y ∷ ys) = if is_less y x then refuse place Order else order_after (place + length y) y ys

-- the same, from the first value on
abbrev pub order_at : ℕ → List (List ℕ) → Result (Unit {0}) Der
order_at place [] = Ok tt
order_at place (x ∷ xs) = order_after (place + length x) x xs

-- Members with this tag. The contents of each are read by f, then its key is looked for among those seen, and then its contents are
-- read again.
unfoldable pub distinct_at : {A B : Type 0} → (List ℕ → List ℕ) → ℕ → (ℕ → Spot → Result A Der) → (ℕ → Spot → Result B Der) → ℕ → List (List ℕ) → Spot → Result (List A) Der
distinct_at key tag f again zero seen p = Ok []
distinct_at key tag f again (suc fuel) seen p =
    if length p.rest == 0 then Ok [] else
    (item_at (is_tag_of tag) p >>= λ i.
    f p.place (within i) >>= λ v.
    (if is_one_of seen (key i.inside.rest) then refuse p.place Value else
    (again p.place (within i) >>= λ _.
    distinct_at key tag f again fuel (key i.inside.rest ∷ seen) i.after >>= λ vs. Ok (v ∷ vs))))

-- ---- a value of any type

-- a well-formed value with one of these tags, where so many levels are left: its octets
unfoldable pub whole_at : Option (List ℕ) → ℕ → Spot → Result (List ℕ × Spot) Der
whole_at tags zero p = item_at (is_tag tags) p >>= λ i. refuse p.place Depth
whole_at tags (suc levels) p =
    item_at (is_tag tags) p >>= λ i.
    (if i.tag / 32 % 2 == 1
    then (all_at (whole_at None levels) (length i.inside.rest) i.inside >>= λ parts. Ok (taken p i.after, i.after))
    else if is_allowed i.tag i.inside.rest then Ok (taken p i.after, i.after) else refuse p.place Value)

-- ---- a value of a schema

-- the first octet is there and passes the test
abbrev pub starts_list : (ℕ → Bool) → List ℕ → Bool
starts_list f [] = false
starts_list f (t ∷ ts) = f t

-- a field that may be absent: what was read where it is there
abbrev pub maybe_at : {A : Type 0} → Bool → Spot → Result (A × Spot) Der → Result (Option A × Spot) Der
maybe_at false p r = Ok (None, p)
maybe_at true p r = r >>= λ x. Ok (Some x.0, x.1)

-- a value with this tag whose contents pass a test
abbrev pub primitive_at : ℕ → (List ℕ → Bool) → Spot → Result (List ℕ × Spot) Der
primitive_at tag rule p =
    item_at (is_tag_of tag) p >>= λ i. (if rule i.inside.rest then Ok i.inside.rest else refuse p.place Value) >>= λ c. Ok (c, i.after)

unfoldable mutual
  -- a value of the schema, and the spot behind it
  pub read : (s : Schema) → Spot → Result (ValueOf s × Spot) Der
  read (node tag b) p =
      item_at (is_tag_of tag) p >>= λ i. read_fields b p.place (within i) >>= λ v. Ok (v, i.after)
  read (tagged tags f) p =
      item_at (is_among (Some tags)) p >>= λ i. read_fields (f i.tag) p.place (within i) >>= λ v. Ok ((i.tag, v), i.after)
  read (whole tags) p = whole_at tags p.levels p
  read (raw s) p = read s p >>= λ x. Ok (taken p x.1, x.1)
  read (such test s) p = read s p >>= λ x. if test (taken p x.1) then Ok x else refuse p.place Value
  read (choice a b) p =
      if starts_list (starts a) p.rest
      then (read a p >>= λ x. Ok (inl x.0, x.1))
      else (read b p >>= λ x. Ok (inr x.0, x.1))

  -- the contents, from a spot to the end, of the value at the place own
  pub read_fields : (b : Body) → ℕ → Spot → Result (FieldsOf b) Der
  read_fields (plain rule) own p = if rule p.rest then Ok p.rest else refuse own Value
  read_fields (unsigned rule) own p = if is_number rule p.rest then Ok (number_from_digits 256 p.rest) else refuse own Value
  read_fields (kept b) own p = read_fields b own p >>= λ _. Ok p.rest
  read_fields done own p = if length p.rest == 0 then Ok tt else refuse p.place Trailing
  read_fields (field s b) own p = read s p >>= λ x. read_fields b own x.1 >>= λ w. Ok (x.0, w)
  read_fields (optional s b) own p =
      maybe_at (starts_list (starts s) p.rest) p (read s p) >>= λ x. read_fields b own x.1 >>= λ w. Ok (x.0, w)
  read_fields (keyed tag rule keys f) own p =
      primitive_at tag rule p >>= λ x. read_fields (f (key_place keys x.0)) own x.1 >>= λ w. Ok (x.0, w)
  read_fields (sequence_of some s) own p =
      if some && (length p.rest == 0) then refuse own Value else all_at (read s) (length p.rest) p
  read_fields (set_of some s) own p =
      if some && (length p.rest == 0) then refuse own Value else
      (all_at (read s) (length p.rest) p >>= λ xs. order_at p.place (map (spelling s) xs) >>= λ _. Ok xs)
  read_fields (distinct_of some key tag b also) own p =
      if some && (length p.rest == 0) then refuse own Value else
      distinct_at key tag (read_fields b) (read_fields also) (length p.rest) [] p

-- the whole of a slice: one value, and nothing after it
abbrev pub read_all : (s : Schema) → Spot → Result (ValueOf s) Der
read_all s p = read s p >>= λ x. if length x.1.rest == 0 then Ok x.0 else refuse x.1.place Trailing

-- ---- what lies in octets

-- the octets of the next value, whatever it holds
unfoldable pub next_at : Spot → Result (List ℕ × Spot) Der
next_at p = item_at (λ _. true) p >>= λ i. Ok (taken p i.after, i.after)

-- the contents of an item, or none
abbrev pub contents_of_item : Result Item Der → List ℕ
contents_of_item (Ok i) = i.inside.rest
contents_of_item (Err e) = []

-- the contents of the first of the values in these octets: the key of an Extension's contents, its identifier
unfoldable pub first_contents : List ℕ → List ℕ
first_contents c = contents_of_item (item_at (λ _. true) (record { levels = 1; place = 0; rest = c }))
