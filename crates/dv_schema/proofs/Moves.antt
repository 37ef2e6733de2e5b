-- A value that was read leaves less, at the same level; so a loop over values may count by what is left.
use Rattle.std.proofs.Common.{◌≡◌, ◌≢◌, ℕ, zero, suc, ◌+◌, ◌-◌, ◌/◌, ◌%◌, ◌<◌, ◌≤◌, ◌⊎◌, ◌||◌, not, Bool, true, false, cond, eqb, ltb, Option, Some, None, Result, Ok, Err, List, [], ◌∷◌, take, drop, length, refl, sym, ap, subst, ◌∙◌, inl, inr, arith}
use Rattle.std.proofs.lemmas.List.{length-take, length-drop}
use Rattle.std.proofs.lemmas.Bool.{ltb-false, eqb-true, eqb-false, cases_Bool}
use Rattle.dv_schema.specs.declared.refusal.Der.{Der}
use Rattle.dv_schema.specs.declared.refusal.Why.TheVariants.{Depth, Value}
use Rattle.dv_schema.specs.Rules.{is_allowed}
use Rattle.dv_schema.specs.Schema.{Schema, node, tagged, whole, raw, such, choice, sequence_of, ValueOf, FieldsOf, starts, is_among}
use Rattle.dv_schema.specs.Fits.{is_tag}
use Rattle.dv_schema.specs.Reading.{Spot, Item, ◌>>=◌, refuse, length_at, sized_at, sizes_at, tagged_at, item_at, all_at, whole_at, taken, read, read_fields, starts_list, is_tag_of, within}
use Rattle.dv_schema.specs.Answers.{skipped}
use Rattle.dv_schema.proofs.Tools.{bind_ok, ok_is, passed, allowed, chosen}

-- the second spot stands behind the first, at the same level
pub record Moves (p q : Spot) : Type 0 where
  pub levels : q.levels ≡ p.levels
  pub less : length q.rest < length p.rest
  pub place : q.place + length q.rest ≡ p.place + length p.rest

-- an item was read: the spot behind it moved on, and its contents are fewer octets, one level down
pub record Opens (p : Spot) (i : Item) : Type 0 where
  -- a value that is read moves on
  pub moves : Moves p i.after
  pub levels : p.levels ≡ i.inside.levels + 1
  pub less : length i.inside.rest < length p.rest

-- an item that was read from octets opens
tagged_moves : (f : ℕ → Bool) (p : Spot) (bytes : List ℕ) (i : Item) → p.rest ≡ bytes → tagged_at f p bytes ≡ Ok i → Opens p i
tagged_moves f p [] i same e = absurd cc
tagged_moves f p (tag ∷ more) i same e =
    let size : length p.rest ≡ suc (length more) = ap length same in
    let g1 = passed (not (f tag) || eqb (tag % 32) 31) _ (sizes_at p tag more) i e in
    let b = bind_ok (length_at p.place more) (λ n. sized_at p tag more n) i g1.1 in
    let n = b.0 in
    let g2 = passed (ltb (length more) (n.1 + n.0)) _ _ i b.2 in
    let g3 = passed (eqb p.levels 0) _ _ i g2.1 in
    let have : n.1 + n.0 ≤ length more = ltb-false _ _ g2.0 in
    let some : p.levels ≢ 0 = eqb-false _ _ g3.0 in
    let made : Item = record {
      tag = tag;
      inside = record { levels = p.levels - 1; place = p.place + (1 + n.1); rest = take n.0 (drop n.1 more) };
      after = record { levels = p.levels; place = p.place + (1 + n.1 + n.0); rest = drop (n.1 + n.0) more };
    } in
    let r : Opens p made = record {
      moves = record { levels = refl; less = omega (arith, length-drop (n.1 + n.0) more); place = omega (arith, length-drop (n.1 + n.0) more) };
      levels = omega arith;
      less = omega (arith, length-take n.0 (drop n.1 more), length-drop n.1 more);
    } in
    subst (Opens p) (ok_is made i g3.1) r

-- an item that was read opens
pub item_opens : (f : ℕ → Bool) (p : Spot) (i : Item) → item_at f p ≡ Ok i → Opens p i
unfolding item_at
item_opens f p i e = tagged_moves f p p.rest i refl e

-- a value of any type that was read moves on
pub whole_moves : (n : ℕ) (tags : Option (List ℕ)) (p : Spot) (x : List ℕ × Spot) → whole_at tags n p ≡ Ok x → Moves p x.1
unfolding whole_at
whole_moves zero tags p x e =
    let a = bind_ok (item_at (is_tag tags) p) (λ i. refuse p.place Depth) x e in absurd cc
whole_moves (suc n) tags p x e =
    let a = bind_ok (item_at (is_tag tags) p) (λ i. cond (eqb (i.tag / 32 % 2) 1)
    (all_at (whole_at None n) (length i.inside.rest) i.inside >>= λ parts. Ok (taken p i.after, i.after))
    (cond (is_allowed i.tag i.inside.rest) (Ok (taken p i.after, i.after)) (refuse p.place Value))) x e in
    let i : Item = a.0 in
    let h = item_opens (is_tag tags) p i a.1 in
    let gave : List ℕ × Spot = (taken p i.after, i.after) in
    let P : List ℕ × Spot → Type 0 = λ y. Moves p y.1 in
    elim (chosen (eqb (i.tag / 32 % 2) 1) _ _ (Ok x) a.2) [
      | inl r ↦
          let b = bind_ok (all_at (whole_at None n) (length i.inside.rest) i.inside) (λ parts. Ok gave) x r.1 in
          subst P (ok_is gave x b.2) h.moves
      | inr r ↦
          let g = allowed (is_allowed i.tag i.inside.rest) _ (Ok gave) x r.1 in
          subst P (ok_is gave x g.1) h.moves
    ]

-- a reader that moves on
unfoldable pub IsMover : {A : Type 0} → (Spot → Result (A × Spot) Der) → Type 0
IsMover {A} f = (p : Spot) (x : A × Spot) → f p ≡ Ok x → Moves p x.1

-- the reader of any value moves on
pub whole_is_mover : (n : ℕ) → IsMover (whole_at None n)
unfolding IsMover
whole_is_mover n p x e = whole_moves n None p x e

-- what goes on alike gives the same
same_then : {A : Type 0} (r : Result (A × Spot) Der) (g h : Spot → Result (List A) Der) → ((x : A × Spot) → r ≡ Ok x → g x.1 ≡ h x.1)
    → (r >>= λ x. g x.1 >>= λ xs. Ok (x.0 ∷ xs)) ≡ (r >>= λ x. h x.1 >>= λ xs. Ok (x.0 ∷ xs))
same_then (Err e) g h same = refl
same_then {A} (Ok x) g h same = ap (λ (r : Result (List A) Der). r >>= λ xs. Ok (x.0 ∷ xs)) (same x refl)

-- more fuel than octets changes nothing
pub enough : {A : Type 0} (f : Spot → Result (A × Spot) Der) → IsMover f → (m n : ℕ) (p : Spot) → length p.rest ≤ m → length p.rest ≤ n → all_at f m p ≡ all_at f n p
unfolding all_at IsMover
enough f moves zero zero p a b = refl
enough f moves zero (suc n) p a b = let z : length p.rest ≡ 0 = omega arith in rw z refl
enough f moves (suc m) zero p a b = let z : length p.rest ≡ 0 = omega arith in rw z refl
enough {A} f moves (suc m) (suc n) p a b =
    let next : (x : A × Spot) → f p ≡ Ok x → all_at f m x.1 ≡ all_at f n x.1 = λ x e.
    (let t = moves p x e in enough f moves m n x.1 (omega (arith, t.less)) (omega (arith, t.less))) in
    elim (cases_Bool (eqb (length p.rest) 0)) [
      | inl h ↦ rw h refl
      | inr h ↦ rw h (same_then (f p) (all_at f m) (all_at f n) next)
    ]

-- a first member changes nothing in whether the rest is refused
skipped_front : {A : Type 0} (x : A) (r : Result (List A) Der) → skipped (r >>= λ xs. Ok (x ∷ xs)) ≡ skipped r
skipped_front x (Ok xs) = refl
skipped_front x (Err e) = refl

-- one turn of a loop that passes values
pub skip_one : {A : Type 0} (f : Spot → Result (A × Spot) Der) (p : Spot) (x : A × Spot) → IsMover f → eqb (length p.rest) 0 ≡ false → f p ≡ Ok x
    → skipped (all_at f (length p.rest) p) ≡ skipped (all_at f (length x.1.rest) x.1)
unfolding all_at IsMover
skip_one {A} f p x moves some e =
    let m : ℕ = length p.rest - 1 in
    let pos : length p.rest ≢ 0 = eqb-false _ _ some in
    let is : length p.rest ≡ suc m = omega arith in
    let t = moves p x e in
    let turn : all_at f (suc m) p ≡ (all_at f m x.1 >>= λ xs. Ok (x.0 ∷ xs)) = rw (some, e) refl in
    ap (λ (k : ℕ). skipped (all_at f k p)) is ∙ ap skipped turn ∙ skipped_front x.0 (all_at f m x.1)
    ∙ ap skipped (enough f moves m (length x.1.rest) x.1 (omega (arith, t.less)) (omega arith))

-- a loop over values ends at the first that is refused
pub skip_err : {A : Type 0} (f : Spot → Result (A × Spot) Der) (p : Spot) (d : Der) → eqb (length p.rest) 0 ≡ false → f p ≡ Err d
    → skipped (all_at f (length p.rest) p) ≡ Err d
unfolding all_at
skip_err {A} f p d some e =
    let m : ℕ = length p.rest - 1 in
    let pos : length p.rest ≢ 0 = eqb-false _ _ some in
    let is : length p.rest ≡ suc m = omega arith in
    let turn : skipped (all_at f (suc m) p) ≡ Err d = rw (some, e) refl in
    ap (λ (k : ℕ). skipped (all_at f k p)) is ∙ turn

-- and where nothing is left
pub skip_none : {A : Type 0} (f : Spot → Result (A × Spot) Der) (p : Spot) → eqb (length p.rest) 0 ≡ true → skipped (all_at f (length p.rest) p) ≡ Ok tt
unfolding all_at
skip_none f p none = ap (λ (k : ℕ). skipped (all_at f k p)) (eqb-true _ _ none)

-- what passing a value gives, from the item at its front
pub whole_err : (p : Spot) (d : Der) → item_at (is_tag None) p ≡ Err d → whole_at None p.levels p ≡ Err d
unfolding whole_at
whole_err p d e = go p.levels
  where
    go : (n : ℕ) → whole_at None n p ≡ Err d
    go zero = rw e refl
    go (suc n) = rw e refl

-- contents that aren't refused, and what is answered then
after_skip : {A B : Type 0} (r : Result A Der) (x : B) → skipped r ≡ Ok tt → (r >>= λ _. Ok x) ≡ Ok x
after_skip (Ok y) x e = refl
after_skip (Err d) x e = absurd cc

-- contents that are refused
after_fault : {A B : Type 0} (r : Result A Der) (x : B) (d : Der) → skipped r ≡ Err d → (r >>= λ _. Ok x) ≡ Err d
after_fault (Ok y) x d e = absurd cc
after_fault (Err b) x d e = cc

-- what is answered for an item of any type, by its inside
inner_at : (n : ℕ) (p : Spot) (i : Item) → Result (List ℕ × Spot) Der
inner_at n p i = cond (eqb (i.tag / 32 % 2) 1)
    (all_at (whole_at None n) (length i.inside.rest) i.inside >>= λ parts. Ok (taken p i.after, i.after))
    (cond (is_allowed i.tag i.inside.rest) (Ok (taken p i.after, i.after)) (refuse p.place Value))

-- a value of any type is read by its item and its inside
whole_is : (p : Spot) (i : Item) → item_at (is_tag None) p ≡ Ok i → p.levels ≡ i.inside.levels + 1 → whole_at None p.levels p ≡ inner_at i.inside.levels p i
unfolding whole_at inner_at
whole_is p i e same =
    let n : p.levels ≡ suc i.inside.levels = omega arith in
    let one : whole_at None (suc i.inside.levels) p ≡ inner_at i.inside.levels p i = rw e refl in
    ap (λ (k : ℕ). whole_at None k p) n ∙ one

-- a constructed value whose members aren't refused
pub node_ok : (p : Spot) (i : Item) → item_at (is_tag None) p ≡ Ok i → p.levels ≡ i.inside.levels + 1 → eqb (i.tag / 32 % 2) 1 ≡ true
    → skipped (all_at (whole_at None i.inside.levels) (length i.inside.rest) i.inside) ≡ Ok tt → whole_at None p.levels p ≡ Ok (taken p i.after, i.after)
unfolding inner_at
node_ok p i e same t all =
    let gave : List ℕ × Spot = (taken p i.after, i.after) in
    whole_is p i e same ∙ rw t (after_skip (all_at (whole_at None i.inside.levels) (length i.inside.rest) i.inside) gave all)

-- a constructed value with a member that is refused
pub node_err : (p : Spot) (i : Item) (d : Der) → item_at (is_tag None) p ≡ Ok i → p.levels ≡ i.inside.levels + 1 → eqb (i.tag / 32 % 2) 1 ≡ true
    → skipped (all_at (whole_at None i.inside.levels) (length i.inside.rest) i.inside) ≡ Err d → whole_at None p.levels p ≡ Err d
unfolding inner_at
node_err p i d e same t all =
    let gave : List ℕ × Spot = (taken p i.after, i.after) in
    whole_is p i e same ∙ rw t (after_fault (all_at (whole_at None i.inside.levels) (length i.inside.rest) i.inside) gave d all)

-- a primitive value whose contents are allowed
pub leaf_ok : (p : Spot) (i : Item) → item_at (is_tag None) p ≡ Ok i → p.levels ≡ i.inside.levels + 1 → eqb (i.tag / 32 % 2) 1 ≡ false
    → is_allowed i.tag i.inside.rest ≡ true → whole_at None p.levels p ≡ Ok (taken p i.after, i.after)
unfolding inner_at
leaf_ok p i e same t ok = whole_is p i e same ∙ rw (t, ok) refl

-- a primitive value whose contents aren't
pub leaf_err : (p : Spot) (i : Item) → item_at (is_tag None) p ≡ Ok i → p.levels ≡ i.inside.levels + 1 → eqb (i.tag / 32 % 2) 1 ≡ false
    → is_allowed i.tag i.inside.rest ≡ false → whole_at None p.levels p ≡ refuse p.place Value
unfolding inner_at
leaf_err p i e same t ok = whole_is p i e same ∙ rw (t, ok) refl

-- what is read by an item, and stands behind it, moves on
moved : {A : Type 0} (f : ℕ → Bool) (p : Spot) (k : Item → Result (A × Spot) Der) (x : A × Spot) → ((i : Item) → k i ≡ Ok x → x.1 ≡ i.after) → (item_at f p >>= k) ≡ Ok x → Moves p x.1
moved f p k x last e =
    let a = bind_ok (item_at f p) k x e in
    subst (Moves p) (sym (last a.0 a.2)) (item_opens f p a.0 a.1).moves

-- each value that is read moves on
pub read_moves : (s : Schema) → IsMover (read s)
unfolding read IsMover
read_moves (node tag b) p x e =
    moved (is_tag_of tag) p (λ i. read_fields b p.place (within i) >>= λ v. Ok (v, i.after)) x
    (λ i h. (let g = bind_ok (read_fields b p.place (within i)) (λ v. Ok (v, i.after)) x h in ap (λ (y : FieldsOf b × Spot). y.1) (sym (ok_is (g.0, i.after) x g.2)))) e
read_moves (tagged tags f) p x e =
    let k : Item → Result (ValueOf (tagged tags f) × Spot) Der = λ i. read_fields (f i.tag) p.place (within i) >>= λ v. Ok ((i.tag, v), i.after) in
    moved (is_among (Some tags)) p k x
    (λ i h. (let last : FieldsOf (f i.tag) → Result (ValueOf (tagged tags f) × Spot) Der = λ v. Ok ((i.tag, v), i.after) in
    let g = bind_ok (read_fields (f i.tag) p.place (within i)) last x h in
    let gave : ValueOf (tagged tags f) × Spot = ((i.tag, g.0), i.after) in ap (λ (y : ValueOf (tagged tags f) × Spot). y.1) (sym (ok_is gave x g.2)))) e
read_moves (whole tags) p x e = whole_moves p.levels tags p x e
read_moves (raw s) p x e =
    let r = bind_ok (read s p) (λ y. Ok (taken p y.1, y.1)) x e in
    subst (λ (y : List ℕ × Spot). Moves p y.1) (ok_is (taken p r.0.1, r.0.1) x r.2) (read_moves s p r.0 r.1)
read_moves (such test s) p x e =
    let r = bind_ok (read s p) (λ y. cond (test (taken p y.1)) (Ok y) (refuse p.place Value)) x e in
    let g = allowed (test (taken p r.0.1)) _ (Ok r.0) x r.2 in
    subst (λ (y : ValueOf s × Spot). Moves p y.1) (ok_is r.0 x g.1) (read_moves s p r.0 r.1)
read_moves (choice a b) p x e =
    elim (chosen (starts_list (starts a) p.rest) _ _ (Ok x) e) [
      | inl h ↦
          let r = bind_ok (read a p) (λ y. Ok (inl y.0, y.1)) x h.1 in
          let made : (ValueOf a ⊎ ValueOf b) × Spot = (inl r.0.0, r.0.1) in
          subst (λ (y : (ValueOf a ⊎ ValueOf b) × Spot). Moves p y.1) (ok_is made x r.2) (read_moves a p r.0 r.1)
      | inr h ↦
          let r = bind_ok (read b p) (λ y. Ok (inr y.0, y.1)) x h.1 in
          let made : (ValueOf a ⊎ ValueOf b) × Spot = (inr r.0.0, r.0.1) in
          subst (λ (y : (ValueOf a ⊎ ValueOf b) × Spot). Moves p y.1) (ok_is made x r.2) (read_moves b p r.0 r.1)
    ]

-- a list with a member is read as its members are
pub many_some : (s : Schema) (some : Bool) (own : ℕ) (p : Spot) → eqb (length p.rest) 0 ≡ false → skipped (read_fields (sequence_of some s) own p) ≡ skipped (all_at (read s) (length p.rest) p)
unfolding read
many_some s true own p h = rw h refl
many_some s false own p h = refl

pub moves : (s : Schema) (p : Spot) (x : ValueOf s × Spot) → read s p ≡ Ok x → Moves p x.1
unfolding IsMover
moves s p x e = read_moves s p x e
