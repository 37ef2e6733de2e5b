-- The values that kept octets hold.
use Rattle.std.proofs.Common.{◌≡◌, Option, Some, None, ◌≤◌, ◌+◌, ◌/◌, ◌%◌, ℕ, Bool, true, eqb, Result, Ok, Err, List, length, refl, sym, ap, subst, ◌∙◌, arith, inl, inr}
use Rattle.std.specs.Prelude.{IsNone, MatchOption, option_map, slice_get}
use Rattle.std.proofs.Math.Nat.{ℕ_set}
use Rattle.std.proofs.Math.Logic.{∥∥₁_elim}
use Rattle.std.proofs.lemmas.Bool.{cases_Bool}
use Rattle.std.proofs.lemmas.Option.{slice_get_past, slice_get_within}
use mathlib.Core.Sum.{⊎_set}
use mathlib.Core.List.{is_set as List_set}
use Rattle.dv_schema.specs.declared.refusal.Der.{Der}
use Rattle.dv_schema.specs.Octets.{IsBytes}
use Rattle.dv_schema.specs.Schema.{Schema, sequence_of, ValueOf, contents}
use Rattle.dv_schema.specs.Types.{list_of}
use Rattle.dv_schema.specs.Fits.{FieldsFit, inner}
use Rattle.dv_schema.specs.Clear.{is_clear}
use Rattle.dv_schema.specs.Reading.{Spot, Item, item_at, is_tag_of, read, read_fields}
use Rattle.dv_schema.specs.Answers.{counted, skipped}
use Rattle.dv_schema.specs.Decodes.{HasSpelling}
use Rattle.dv_schema.proofs.Tools.{ok_is}
use Rattle.dv_schema.proofs.Takes.{fields_take}
use Rattle.dv_schema.proofs.Again.{fields_again}
use Rattle.dv_schema.proofs.Spellings.{fields_more}
use Rattle.dv_schema.proofs.Kept.{value_set}
use Rattle.dv_schema.proofs.Items.{item_takes}
use Rattle.dv_schema.proofs.Lists.{members_few, members_read}
use Rattle.dv_schema.proofs.Moves.{read_moves}
use Rattle.dv_schema.proofs.Nodes.{constructed_fault, constructed_value}
use Rattle.dv_members.specs.Members.{front_of, or_none, values_in}

-- values that fit are those of the list's octets
pub values_again : (s : Schema) (some : Bool) (own : ℕ) (vs : List (ValueOf s)) → is_clear s ≡ true → FieldsFit (sequence_of some s) 32 vs
    → (read_fields (sequence_of some s) own (front_of (contents (sequence_of some s) vs)) ≡ Ok vs) × (values_in s (contents (sequence_of some s) vs) ≡ vs)
unfolding values_in
values_again s some own vs clear fits =
    let a = fields_again (sequence_of some s) 32 own 0 vs clear fits in
    let m = members_read s some own (front_of (contents (sequence_of some s) vs)) vs a in
    (a, ap or_none m)

-- the same, of octets that they spell
pub values_of_octets : (s : Schema) (some : Bool) (own : ℕ) (octets : List ℕ) (vs : List (ValueOf s)) → is_clear s ≡ true → octets ≡ contents (sequence_of some s) vs → FieldsFit (sequence_of some s) 32 vs
    → (read_fields (sequence_of some s) own (front_of octets) ≡ Ok vs) × (values_in s octets ≡ vs)
values_of_octets s some own octets vs clear is fits =
    let P : List ℕ → Type 0 = λ o. (read_fields (sequence_of some s) own (front_of o) ≡ Ok vs) × (values_in s o ≡ vs) in
    subst P (sym is) (values_again s some own vs clear fits)

-- those that were read at some place in a message are those of the octets by themselves
pub values_found : (s : Schema) (some : Bool) (own : ℕ) (p : Spot) (vs : List (ValueOf s)) → is_clear s ≡ true → IsBytes p.rest → p.levels ≤ 32 → read_fields (sequence_of some s) own p ≡ Ok vs → values_in s p.rest ≡ vs
values_found s some own p vs clear bytes levels e =
    let t = fields_take (sequence_of some s) p.levels own p vs refl bytes e in
    (values_of_octets s some own p.rest vs clear t.0 (fields_more (sequence_of some s) p.levels 32 vs levels t.1)).1

-- what reading answers is a set
list_set : (s : Schema) → IsSet (Result (List (ValueOf s)) Der)
list_set s = let v : IsSet (List (ValueOf s)) = List_set (value_set s) in hlevel (v, ℕ_set, ⊎_set)

-- inside a value there are at most 32 levels
inner_few : (tag : ℕ) → inner tag 31 ≤ 32
inner_few tag =
    elim (cases_Bool (eqb (tag / 32 % 2) 1)) [
      | inl t ↦ rw t (omega arith)
      | inr f ↦ rw f (omega arith)
    ]

-- the octets of a list that is known to have a spelling are read
pub list_values : (s : Schema) (some : Bool) (tag own : ℕ) (octets : List ℕ) → is_clear s ≡ true → ∥ HasSpelling (list_of tag some s) octets ∥₁ → read_fields (sequence_of some s) own (front_of octets) ≡ Ok (values_in s octets)
unfolding HasSpelling
list_values s some tag own octets clear h =
    ∥∥₁_elim h (list_set s (read_fields (sequence_of some s) own (front_of octets)) (Ok (values_in s octets)))
    (λ f. (let k = f.0.2 in
    let v = values_of_octets s some own octets k.0 clear k.1 (fields_more (sequence_of some s) (inner tag 31) 32 k.0 (inner_few tag) k.2) in
    v.0 ∙ ap (λ (l : List (ValueOf s)). Ok l) (sym v.1)))

-- and spell them
pub values_spell : (s : Schema) (some : Bool) (tag : ℕ) (octets : List ℕ) → is_clear s ≡ true → ∥ HasSpelling (list_of tag some s) octets ∥₁ → octets ≡ contents (sequence_of some s) (values_in s octets)
unfolding HasSpelling
values_spell s some tag octets clear h =
    let set : IsSet (List ℕ) = List_set ℕ_set in
    ∥∥₁_elim h (set octets (contents (sequence_of some s) (values_in s octets)))
    (λ f. (let k = f.0.2 in
    let v = values_of_octets s some 0 octets k.0 clear k.1 (fields_more (sequence_of some s) (inner tag 31) 32 k.0 (inner_few tag) k.2) in
    k.1 ∙ ap (contents (sequence_of some s)) (sym v.1)))

-- what was counted was read
counted_ok : {A : Type 0} (n : ℕ) (r : Result (List A) Der) → counted 0 r ≡ Ok n → (vs : List A) × (r ≡ Ok vs) × (n ≡ length vs)
counted_ok n (Ok vs) e = let is : 0 + length vs ≡ n = ok_is (0 + length vs) n e in (vs, refl, omega (arith, is))
counted_ok n (Err d) e = absurd cc

-- and what was refused was refused
counted_err : {A : Type 0} (r : Result (List A) Der) (d : Der) → counted 0 r ≡ Err d → r ≡ Err d
counted_err (Ok vs) d e = absurd cc
counted_err (Err b) d e = cc

-- a list that was entered and whose members were counted
pub record IsCounted (s : Schema) (some : Bool) (tag n : ℕ) (p inside after : Spot) : Type 0 where
  pub list : read (list_of tag some s) p ≡ Ok (inside.rest, after)
  pub count : n ≡ length (values_in s inside.rest)
  pub few : n ≤ length inside.rest

pub counted_list : (s : Schema) (some : Bool) (tag n : ℕ) (p inside after : Spot) → is_clear s ≡ true → tag / 32 % 2 ≡ 1 → IsBytes p.rest → p.levels ≤ 32
    → item_at (is_tag_of tag) p ≡ Ok (record { tag = tag; inside = inside; after = after }) → counted 0 (read_fields (sequence_of some s) p.place inside) ≡ Ok n → IsCounted s some tag n p inside after
counted_list s some tag n p inside after clear e bytes levels item c =
    let i : Item = record { tag = tag; inside = inside; after = after } in
    let v = counted_ok n (read_fields (sequence_of some s) p.place inside) c in
    let t = item_takes (is_tag_of tag) p i bytes item in
    let found = values_found s some p.place inside v.0 clear t.inside_fits (omega (arith, t.levels, levels)) v.1 in
    let few = members_few (read s) (read_moves s) (length inside.rest) inside v.0 (members_read s some p.place inside v.0 v.1) in
    record {
      list = constructed_value tag (sequence_of some s) p inside after e item (ap skipped v.1);
      count = v.2 ∙ ap length (sym found);
      few = omega (arith, few, v.2);
    }

-- and one with a member that was refused
pub counted_fault : (s : Schema) (some : Bool) (tag : ℕ) (p inside after : Spot) (d : Der) → tag / 32 % 2 ≡ 1
    → item_at (is_tag_of tag) p ≡ Ok (record { tag = tag; inside = inside; after = after }) → counted 0 (read_fields (sequence_of some s) p.place inside) ≡ Err d → read (list_of tag some s) p ≡ Err d
counted_fault s some tag p inside after d e item c =
    constructed_fault tag (sequence_of some s) p inside after d e item (ap skipped (counted_err (read_fields (sequence_of some s) p.place inside) d c))

-- the member at an index, as a call that finds it says
pub record IsMember {X A : Type 0} (view : X → A) (r : Option X) (vs : List A) (i : ℕ) : Type 0 where
  pub past : IsNone r → length vs ≤ i
  pub none : length vs ≤ i → IsNone r
  pub same : option_map view r ≡ slice_get vs i

pub member_is : {X A : Type 0} (view : X → A) (r : Option X) (vs : List A) (i : ℕ) → MatchOption r (length vs ≤ i) (λ x. slice_get vs i ≡ Some (view x)) → IsMember view r vs i
member_is view None vs i h = record { past = λ _. h; none = λ _. refl; same = sym (slice_get_past vs i h) }
member_is view (Some x) vs i h =
    let lt = slice_get_within vs i (view x) h in
    record { past = λ no. absurd cc; none = λ le. absurd (omega arith); same = sym h }
