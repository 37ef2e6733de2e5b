-- The order of the members of a set, looked at once they are read.
use Rattle.std.proofs.Common.{◌≡◌, ◌≢◌, ℕ, zero, suc, ◌+◌, ◌-◌, ◌/◌, ◌%◌, ◌<◌, ◌⊎◌, ◌||◌, ◌&&◌, not, Bool, true, false, cond, eqb, Option, Some, None, Result, Ok, Err, List, [], ◌∷◌, length, map, refl, sym, ap, subst, ◌∙◌, inl, inr, arith}
use Rattle.std.proofs.lemmas.List.{length-take}
use Rattle.std.proofs.lemmas.Bool.{cases_Bool, eqb-true, eqb-false, or_parts}
use Rattle.dv_schema.specs.declared.refusal.Der.{Der}
use Rattle.dv_schema.specs.declared.refusal.Why.TheVariants.{End, Tag, Order, Value, Depth}
use Rattle.dv_schema.specs.Octets.{is_less, same_octets, IsBytes}
use Rattle.dv_schema.specs.Rules.{is_allowed}
use Rattle.dv_schema.specs.Schema.{Schema, node, tagged, whole, raw, such, choice, sequence_of, set_of, ValueOf, FieldsOf, spelling, starts, is_among}
use Rattle.dv_schema.specs.Fits.{is_tag}
use Rattle.dv_schema.specs.Reading.{Spot, Item, ◌>>=◌, refuse, item_at, tagged_at, sizes_at, all_at, whole_at, taken, order_at, order_after, read, read_fields, starts_list, is_tag_of, within, next_at}
use Rattle.dv_schema.specs.Answers.{ordered_at, skipped, IsSplit}
use Rattle.dv_schema.proofs.Tools.{bind_ok, ok_is, passed, allowed, chosen}
use Rattle.dv_schema.proofs.Moves.{Moves, IsMover, item_opens, enough, skip_err}
use Rattle.dv_schema.proofs.Nodes.{skipped_value, skipped_fault}
use Rattle.dv_schema.proofs.Takes.{takes, taken_text}

-- a value with one of some tags is a value
any_tagged : (f : ℕ → Bool) (p : Spot) (bytes : List ℕ) (i : Item) → tagged_at f p bytes ≡ Ok i → tagged_at (λ _. true) p bytes ≡ Ok i
any_tagged f p [] i e = absurd cc
any_tagged f p (tag ∷ more) i e =
    let g = passed (not (f tag) || eqb (tag % 32) 31) _ (sizes_at p tag more) i e in
    let t = or_parts (not (f tag)) (eqb (tag % 32) 31) g.0 in
    rw t.1 g.1

-- an item with one of some tags is an item
any_item : (f : ℕ → Bool) (p : Spot) (i : Item) → item_at f p ≡ Ok i → item_at (λ _. true) p ≡ Ok i
unfolding item_at
any_item f p i e = any_tagged f p p.rest i e

-- an item that was read is the next value
item_next : (f : ℕ → Bool) (p : Spot) (i : Item) → item_at f p ≡ Ok i → next_at p ≡ Ok (taken p i.after, i.after)
unfolding next_at
item_next f p i e = rw (any_item f p i e) refl

-- the second spot stands behind the next value
IsNext : Spot → Spot → Type 0
IsNext p q = next_at p ≡ Ok (taken p q, q)

-- what is read by an item, and stands behind it, is the next value
after_item : {A : Type 0} (f : ℕ → Bool) (p : Spot) (k : Item → Result (A × Spot) Der) (x : A × Spot) → ((i : Item) → k i ≡ Ok x → x.1 ≡ i.after) → (item_at f p >>= k) ≡ Ok x → IsNext p x.1
unfolding IsNext
after_item f p k x last e =
    let a = bind_ok (item_at f p) k x e in
    subst (λ (q : Spot). next_at p ≡ Ok (taken p q, q)) (sym (last a.0 a.2)) (item_next f p a.0 a.1)

-- a value of any type that was read is the next one
whole_next : (n : ℕ) (tags : Option (List ℕ)) (p : Spot) (x : List ℕ × Spot) → whole_at tags n p ≡ Ok x → IsNext p x.1
unfolding whole_at IsNext
whole_next zero tags p x e =
    let a = bind_ok (item_at (is_tag tags) p) (λ i. refuse p.place Depth) x e in absurd cc
whole_next (suc n) tags p x e =
    let a = bind_ok (item_at (is_tag tags) p) (λ i. cond (eqb (i.tag / 32 % 2) 1)
    (all_at (whole_at None n) (length i.inside.rest) i.inside >>= λ parts. Ok (taken p i.after, i.after))
    (cond (is_allowed i.tag i.inside.rest) (Ok (taken p i.after, i.after)) (refuse p.place Value))) x e in
    let i : Item = a.0 in
    let gave : List ℕ × Spot = (taken p i.after, i.after) in
    let P : List ℕ × Spot → Type 0 = λ y. IsNext p y.1 in
    let h = item_next (is_tag tags) p i a.1 in
    elim (chosen (eqb (i.tag / 32 % 2) 1) _ _ (Ok x) a.2) [
      | inl r ↦
          let b = bind_ok (all_at (whole_at None n) (length i.inside.rest) i.inside) (λ parts. Ok gave) x r.1 in
          subst P (ok_is gave x b.2) h
      | inr r ↦
          let g = allowed (is_allowed i.tag i.inside.rest) _ (Ok gave) x r.1 in
          subst P (ok_is gave x g.1) h
    ]

-- a value that is read is the next one
pub read_next : (s : Schema) (p : Spot) (x : ValueOf s × Spot) → read s p ≡ Ok x → next_at p ≡ Ok (taken p x.1, x.1)
unfolding read IsNext
read_next (node tag b) p x e =
    after_item (is_tag_of tag) p (λ i. read_fields b p.place (within i) >>= λ v. Ok (v, i.after)) x
    (λ i h. (let g = bind_ok (read_fields b p.place (within i)) (λ v. Ok (v, i.after)) x h in ap (λ (y : FieldsOf b × Spot). y.1) (sym (ok_is (g.0, i.after) x g.2)))) e
read_next (tagged tags f) p x e =
    let k : Item → Result (ValueOf (tagged tags f) × Spot) Der = λ i. read_fields (f i.tag) p.place (within i) >>= λ v. Ok ((i.tag, v), i.after) in
    after_item (is_among (Some tags)) p k x
    (λ i h. (let last : FieldsOf (f i.tag) → Result (ValueOf (tagged tags f) × Spot) Der = λ v. Ok ((i.tag, v), i.after) in
    let g = bind_ok (read_fields (f i.tag) p.place (within i)) last x h in
    let gave : ValueOf (tagged tags f) × Spot = ((i.tag, g.0), i.after) in ap (λ (y : ValueOf (tagged tags f) × Spot). y.1) (sym (ok_is gave x g.2)))) e
read_next (whole tags) p x e = whole_next p.levels tags p x e
read_next (raw s) p x e =
    let r = bind_ok (read s p) (λ y. Ok (taken p y.1, y.1)) x e in
    subst (λ (y : List ℕ × Spot). IsNext p y.1) (ok_is (taken p r.0.1, r.0.1) x r.2) (read_next s p r.0 r.1)
read_next (such test s) p x e =
    let r = bind_ok (read s p) (λ y. cond (test (taken p y.1)) (Ok y) (refuse p.place Value)) x e in
    let g = allowed (test (taken p r.0.1)) _ (Ok r.0) x r.2 in
    subst (λ (y : ValueOf s × Spot). IsNext p y.1) (ok_is r.0 x g.1) (read_next s p r.0 r.1)
read_next (choice a b) p x e =
    elim (chosen (starts_list (starts a) p.rest) _ _ (Ok x) e) [
      | inl h ↦
          let r = bind_ok (read a p) (λ y. Ok (inl y.0, y.1)) x h.1 in
          let made : (ValueOf a ⊎ ValueOf b) × Spot = (inl r.0.0, r.0.1) in
          subst (λ (y : (ValueOf a ⊎ ValueOf b) × Spot). IsNext p y.1) (ok_is made x r.2) (read_next a p r.0 r.1)
      | inr h ↦
          let r = bind_ok (read b p) (λ y. Ok (inr y.0, y.1)) x h.1 in
          let made : (ValueOf a ⊎ ValueOf b) × Spot = (inr r.0.0, r.0.1) in
          subst (λ (y : (ValueOf a ⊎ ValueOf b) × Spot). IsNext p y.1) (ok_is made x r.2) (read_next b p r.0 r.1)
    ]

-- the reader of the next value moves on
pub next_moves : IsMover next_at
unfolding IsMover next_at
next_moves p x e =
    let a = bind_ok (item_at (λ _. true) p) (λ i. Ok (taken p i.after, i.after)) x e in
    subst (λ (y : List ℕ × Spot). Moves p y.1) (ok_is (taken p a.0.after, a.0.after) x a.2) (item_opens (λ _. true) p a.0 a.1).moves

-- members that are read are the next ones, by their spellings
all_next : (s : Schema) (fuel : ℕ) (p : Spot) (xs : List (ValueOf s)) → IsBytes p.rest → all_at (read s) fuel p ≡ Ok xs → all_at next_at fuel p ≡ Ok (map (spelling s) xs)
unfolding all_at
all_next s zero p xs fits e = ap (λ (ys : List (ValueOf s)). Ok (map (spelling s) ys)) (ok_is [] xs e)
all_next s (suc fuel) p xs fits e =
    elim (chosen (eqb (length p.rest) 0) (Ok []) _ (Ok xs) e) [
      | inl h ↦ rw h.0 (ap (λ (ys : List (ValueOf s)). Ok (map (spelling s) ys)) (ok_is [] xs h.1))
      | inr h ↦
          let a = bind_ok (read s p) (λ x. all_at (read s) fuel x.1 >>= λ ys. Ok (x.0 ∷ ys)) xs h.1 in
          let b = bind_ok (all_at (read s) fuel a.0.1) (λ ys. Ok (a.0.0 ∷ ys)) xs a.2 in
          let t = takes s p a.0 fits a.1 in
          let text : taken p a.0.1 ≡ spelling s a.0.0 = taken_text p a.0.1 (spelling s a.0.0) t.0.octets in
          let one : next_at p ≡ Ok (spelling s a.0.0, a.0.1) = read_next s p a.0 a.1 ∙ ap (λ (z : List ℕ). Ok (z, a.0.1)) text in
          let more = all_next s fuel a.0.1 b.0 t.0.fits b.1 in
          rw (h.0, one, more) (ap (λ (ys : List (ValueOf s)). Ok (map (spelling s) ys)) (ok_is (a.0.0 ∷ b.0) xs b.2))
    ]

-- one turn over values, whatever reads them
pub all_one : {A : Type 0} (f : Spot → Result (A × Spot) Der) (p : Spot) (x : A × Spot) → IsMover f → eqb (length p.rest) 0 ≡ false → f p ≡ Ok x
    → all_at f (length p.rest) p ≡ (all_at f (length x.1.rest) x.1 >>= λ xs. Ok (x.0 ∷ xs))
unfolding all_at IsMover
all_one {A} f p x moves some e =
    let m : ℕ = length p.rest - 1 in
    let pos : length p.rest ≢ 0 = eqb-false _ _ some in
    let is : length p.rest ≡ suc m = omega arith in
    let t = moves p x e in
    let turn : all_at f (suc m) p ≡ (all_at f m x.1 >>= λ xs. Ok (x.0 ∷ xs)) = rw (some, e) refl in
    ap (λ (k : ℕ). all_at f k p) is ∙ turn ∙ ap (λ (r : Result (List A) Der). r >>= λ xs. Ok (x.0 ∷ xs)) (enough f moves m (length x.1.rest) x.1 (omega (arith, t.less)) (omega arith))

-- what is left to compare, behind a value
unfoldable pub left_at : List ℕ → Spot → Result (Unit {0}) Der
left_at x q = all_at next_at (length q.rest) q >>= λ ys. order_after q.place x ys

-- the next value's octets are the distance
pub next_place : (p : Spot) (x : List ℕ × Spot) → next_at p ≡ Ok x → x.1.place ≡ p.place + length x.0
unfolding next_at
next_place p x e =
    let a = bind_ok (item_at (λ _. true) p) (λ i. Ok (taken p i.after, i.after)) x e in
    let m = (item_opens (λ _. true) p a.0 a.1).moves in
    let n = length-take (length p.rest - length a.0.after.rest) p.rest in
    let P : List ℕ × Spot → Type 0 = λ y. y.1.place ≡ p.place + length y.0 in
    subst P (ok_is (taken p a.0.after, a.0.after) x a.2) (omega (arith, m.less, m.place, n))

-- the order of values, from the first one on
then_order : (place next : ℕ) (x : List ℕ) (r : Result (List (List ℕ)) Der) → next ≡ place + length x
    → ((r >>= λ xs. Ok (x ∷ xs)) >>= λ xs. order_at place xs) ≡ (r >>= λ ys. order_after next x ys)
then_order place next x (Ok ys) e = ap (λ (k : ℕ). order_after k x ys) (sym e)
then_order place next x (Err d) e = refl

-- the order of values is that of what is left behind the first
pub order_first : (p : Spot) (x : List ℕ × Spot) → eqb (length p.rest) 0 ≡ false → next_at p ≡ Ok x → ordered_at p ≡ left_at x.0 x.1
unfolding ordered_at left_at
order_first p x some e =
    ap (λ (r : Result (List (List ℕ)) Der). r >>= λ xs. order_at p.place xs) (all_one next_at p x next_moves some e)
    ∙ then_order p.place x.1.place x.0 (all_at next_at (length x.1.rest) x.1) (next_place p x e)

-- where nothing is left nothing is out of order
pub order_none : (p : Spot) → eqb (length p.rest) 0 ≡ true → ordered_at p ≡ Ok tt
unfolding ordered_at all_at
order_none p none = ap (λ (k : ℕ). all_at next_at k p >>= λ xs. order_at p.place xs) (eqb-true _ _ none)

-- nor behind a last value
pub order_end : (x : List ℕ) (q : Spot) → eqb (length q.rest) 0 ≡ true → left_at x q ≡ Ok tt
unfolding left_at all_at
order_end x q none = ap (λ (k : ℕ). all_at next_at k q >>= λ xs. order_after q.place x xs) (eqb-true _ _ none)

-- the order behind a value, from the next one on
then_after : (place next : ℕ) (x y : List ℕ) (r : Result (List (List ℕ)) Der) → is_less y x ≡ false → next ≡ place + length y
    → ((r >>= λ xs. Ok (y ∷ xs)) >>= λ xs. order_after place x xs) ≡ (r >>= λ ys. order_after next y ys)
then_after place next x y (Ok ys) less e = rw less (ap (λ (k : ℕ). order_after k y ys) (sym e))
then_after place next x y (Err d) less e = refl

-- one turn of a loop over values that ascend
pub order_turn : (x : List ℕ) (q : Spot) (y : List ℕ × Spot) → eqb (length q.rest) 0 ≡ false → next_at q ≡ Ok y → is_less y.0 x ≡ false → left_at x q ≡ left_at y.0 y.1
unfolding left_at
order_turn x q y some e less =
    ap (λ (r : Result (List (List ℕ)) Der). r >>= λ xs. order_after q.place x xs) (all_one next_at q y next_moves some e)
    ∙ then_after q.place y.1.place x y.0 (all_at next_at (length y.1.rest) y.1) less (next_place q y e)

-- a value that is less than the one before it is refused
then_bad : (place : ℕ) (x y : List ℕ) (r : Result (List (List ℕ)) Der) → is_less y x ≡ true → skipped (r >>= λ xs. Ok (y ∷ xs)) ≡ Ok tt
    → ((r >>= λ xs. Ok (y ∷ xs)) >>= λ xs. order_after place x xs) ≡ refuse place Order
then_bad place x y (Ok ys) less ok = rw less refl
then_bad place x y (Err d) less ok = absurd cc

-- a loop ends at the first value that is less than the one before it
pub order_bad : (x : List ℕ) (q : Spot) (y : List ℕ × Spot) → IsSplit q → eqb (length q.rest) 0 ≡ false → next_at q ≡ Ok y → is_less y.0 x ≡ true → left_at x q ≡ refuse q.place Order
unfolding left_at IsSplit
order_bad x q y split some e less =
    let one = all_one next_at q y next_moves some e in
    ap (λ (r : Result (List (List ℕ)) Der). r >>= λ xs. order_after q.place x xs) one
    ∙ then_bad q.place x y.0 (all_at next_at (length y.1.rest) y.1) less (ap skipped (sym one) ∙ split)

-- where all are values, all but the first are
front_ok : {A : Type 0} (x : A) (r : Result (List A) Der) → skipped (r >>= λ xs. Ok (x ∷ xs)) ≡ Ok tt → skipped r ≡ Ok tt
front_ok x (Ok xs) e = refl
front_ok x (Err d) e = absurd cc

-- behind a value what is left are values
pub split_turn : (q : Spot) (y : List ℕ × Spot) → IsSplit q → eqb (length q.rest) 0 ≡ false → next_at q ≡ Ok y → IsSplit y.1
unfolding IsSplit
split_turn q y split some e = front_ok y.0 (all_at next_at (length y.1.rest) y.1) (ap skipped (sym (all_one next_at q y next_moves some e)) ∙ split)

-- no value of what is left is refused
pub split_err : (q : Spot) (d : Der) → IsSplit q → eqb (length q.rest) 0 ≡ false → next_at q ≡ Err d → ⊥
unfolding IsSplit
split_err q d split some e = let bad = skip_err next_at q d some e in absurd cc

-- members that are read are values
pub members_split : (s : Schema) (p : Spot) → IsBytes p.rest → skipped (all_at (read s) (length p.rest) p) ≡ Ok tt → IsSplit p
unfolding IsSplit
members_split s p fits e =
    let a = skipped_value (all_at (read s) (length p.rest) p) e in
    ap skipped (all_next s (length p.rest) p a.0 fits a.1)

-- A set whose members are read is refused where their order is.
then_same : {A : Type 0} (x : A) (r : Result (Unit {0}) Der) → skipped (r >>= λ _. Ok x) ≡ r
then_same x (Ok tt) = refl
then_same x (Err d) = refl

-- a set whose members were read is refused where their order is
set_of_read : (s : Schema) (some : Bool) (own : ℕ) (p : Spot) (xs : List (ValueOf s)) → IsBytes p.rest → (some && eqb (length p.rest) 0) ≡ false → all_at (read s) (length p.rest) p ≡ Ok xs
    → skipped (read_fields (set_of some s) own p) ≡ ordered_at p
unfolding read ordered_at
set_of_read s some own p xs fits nonempty e =
    let one : skipped (read_fields (set_of some s) own p) ≡ order_at p.place (map (spelling s) xs) = rw (nonempty, e) (then_same xs (order_at p.place (map (spelling s) xs))) in
    let two : (all_at next_at (length p.rest) p >>= λ ys. order_at p.place ys) ≡ order_at p.place (map (spelling s) xs) = rw (all_next s (length p.rest) p xs fits e) refl in
    one ∙ sym two

-- the same, from what is known of the members
pub set_ok : (s : Schema) (some : Bool) (own : ℕ) (p : Spot) → IsBytes p.rest → (some && eqb (length p.rest) 0) ≡ false → skipped (all_at (read s) (length p.rest) p) ≡ Ok tt
    → skipped (read_fields (set_of some s) own p) ≡ ordered_at p
set_ok s some own p fits nonempty e = let a = skipped_value (all_at (read s) (length p.rest) p) e in set_of_read s some own p a.0 fits nonempty a.1

-- a set with a member that is refused is refused there
pub set_err : (s : Schema) (some : Bool) (own : ℕ) (p : Spot) (d : Der) → (some && eqb (length p.rest) 0) ≡ false → skipped (all_at (read s) (length p.rest) p) ≡ Err d
    → skipped (read_fields (set_of some s) own p) ≡ Err d
unfolding read
set_err s some own p d nonempty e = rw (nonempty, skipped_fault (all_at (read s) (length p.rest) p) d e) refl

-- behind the next value fewer octets are left
pub next_less : (p : Spot) (x : List ℕ × Spot) → next_at p ≡ Ok x → length x.1.rest < length p.rest
unfolding IsMover
next_less p x e = (next_moves p x e).less

-- the same, from what is known of the members as a list
pub set_like : (s : Schema) (some : Bool) (own : ℕ) (p : Spot) → IsBytes p.rest → skipped (read_fields (sequence_of some s) own p) ≡ Ok tt
    → IsSplit p × (skipped (read_fields (set_of some s) own p) ≡ ordered_at p)
unfolding read
set_like s some own p fits e =
    elim (cases_Bool (some && eqb (length p.rest) 0)) [
      | inl t ↦ let bad : skipped (read_fields (sequence_of some s) own p) ≡ Err (record { place = own; why = Value }) = rw t refl in absurd cc
      | inr f ↦
          let same : skipped (read_fields (sequence_of some s) own p) ≡ skipped (all_at (read s) (length p.rest) p) = rw f refl in
          (members_split s p fits (sym same ∙ e), set_ok s some own p fits f (sym same ∙ e))
    ]

-- a set is refused where the list of its members is
pub set_fault : (s : Schema) (some : Bool) (own : ℕ) (p : Spot) (d : Der) → skipped (read_fields (sequence_of some s) own p) ≡ Err d → skipped (read_fields (set_of some s) own p) ≡ Err d
unfolding read
set_fault s some own p d e =
    elim (cases_Bool (some && eqb (length p.rest) 0)) [
      | inl t ↦
          let one : skipped (read_fields (sequence_of some s) own p) ≡ Err (record { place = own; why = Value }) = rw t refl in
          let two : skipped (read_fields (set_of some s) own p) ≡ Err (record { place = own; why = Value }) = rw t refl in
          two ∙ sym one ∙ e
      | inr f ↦
          let same : skipped (read_fields (sequence_of some s) own p) ≡ skipped (all_at (read s) (length p.rest) p) = rw f refl in
          set_err s some own p d f (sym same ∙ e)
    ]

-- a value of any type with one of some tags
same_tag : (tags : List ℕ) (p : Spot) (bytes : List ℕ) → starts_list (is_among (Some tags)) bytes ≡ true → tagged_at (is_tag (Some tags)) p bytes ≡ tagged_at (is_tag None) p bytes
same_tag tags p [] h = refl
same_tag tags p (t ∷ ts) h = rw h refl

-- a value with one of some tags is read as any value
pub whole_among : (tags : List ℕ) (p : Spot) → starts_list (is_among (Some tags)) p.rest ≡ true → read (whole (Some tags)) p ≡ read (whole None) p
unfolding read whole_at item_at
whole_among tags p h = go p.levels
  where
    go : (n : ℕ) → whole_at (Some tags) n p ≡ whole_at None n p
    go zero = rw (same_tag tags p p.rest h) refl
    go (suc n) = rw (same_tag tags p p.rest h) refl

-- a value with another tag is refused
not_one : (tags : List ℕ) (p : Spot) (t : ℕ) (ts : List ℕ) → is_among (Some tags) t ≡ false → tagged_at (is_tag (Some tags)) p (t ∷ ts) ≡ refuse p.place Tag
not_one tags p t ts h = rw h refl

-- a value of any type with another tag is refused
pub whole_not : (tags : List ℕ) (p : Spot) (t : ℕ) (ts : List ℕ) → p.rest ≡ t ∷ ts → is_among (Some tags) t ≡ false → read (whole (Some tags)) p ≡ refuse p.place Tag
unfolding read whole_at item_at
whole_not tags p t ts same h = go p.levels
  where
    go : (n : ℕ) → whole_at (Some tags) n p ≡ refuse p.place Tag
    go zero = rw (same, not_one tags p t ts h) refl
    go (suc n) = rw (same, not_one tags p t ts h) refl

-- no value is left
pub whole_end : (tags : List ℕ) (p : Spot) → p.rest ≡ [] → read (whole (Some tags)) p ≡ refuse p.place End
unfolding read whole_at item_at
whole_end tags p same = go p.levels
  where
    go : (n : ℕ) → whole_at (Some tags) n p ≡ refuse p.place End
    go zero = rw same refl
    go (suc n) = rw same refl

-- octets are the same or not
pub same_lengths : (xs ys : List ℕ) → length xs ≢ length ys → same_octets xs ys ≡ false
same_lengths [] [] ne = absurd (ne refl)
same_lengths [] (y ∷ ys) ne = refl
same_lengths (x ∷ xs) [] ne = refl
same_lengths (x ∷ xs) (y ∷ ys) ne =
    elim (cases_Bool (eqb x y)) [
      | inl e ↦ rw e (same_lengths xs ys (λ q. ne (ap suc q)))
      | inr f ↦ rw f refl
    ]
