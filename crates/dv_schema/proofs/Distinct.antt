-- Going over the members of a list without repetitions.
use Rattle.std.proofs.Common.{◌≡◌, ◌≢◌, ℕ, zero, suc, ◌-◌, ◌<◌, ◌≤◌, Bool, true, false, cond, eqb, Result, Ok, Err, List, [], ◌∷◌, ◌++◌, ◌||◌, ◌%◌, length, refl, ap, ◌∙◌, inl, inr, arith}
use Rattle.std.proofs.lemmas.Bool.{cases_Bool, eqb-true, eqb-false}
use Rattle.dv_schema.specs.declared.refusal.Der.{Der}
use Rattle.dv_schema.specs.declared.refusal.Why.TheVariants.{Value}
use Rattle.dv_schema.specs.Tlv.{tlv}
use Rattle.dv_schema.specs.Octets.{is_one_of, same_octets}
use Rattle.dv_schema.specs.Schema.{node, Body, kept, distinct_of, FieldsOf}
use Rattle.dv_schema.specs.Reading.{Spot, Item, ◌>>=◌, refuse, item_at, read, read_fields, is_tag_of, within, distinct_at, first_contents, contents_of_item}
use Rattle.dv_schema.specs.Answers.{skipped, Keys}
use Rattle.dv_schema.proofs.Tools.{bind_ok, ok_is}
use Rattle.dv_schema.proofs.Moves.{item_opens, moves}
use Rattle.dv_schema.proofs.Items.{item_again}
use Rattle.dv_schema.proofs.Nodes.{skipped_value, skipped_fault}

-- what is known of a member once its own fields were read
pub record IsOwn (tag : ℕ) (b : Body) (p : Spot) (c : List ℕ) (q : Spot) : Type 0 where
  pub item : Item
  pub fields : FieldsOf b
  pub item_is : item_at (is_tag_of tag) p ≡ Ok item
  pub fields_are : read_fields b p.place (within item) ≡ Ok fields
  pub contents_are : item.inside.rest ≡ c
  pub after_is : item.after ≡ q

-- a member that was read by its own fields
pub own_fields : (tag : ℕ) (b : Body) (p : Spot) (c : List ℕ) (q : Spot) → read (node tag (kept b)) p ≡ Ok (c, q) → IsOwn tag b p c q
unfolding read
own_fields tag b p c q e =
    let inside : Item → Result (List ℕ) Der = λ i. read_fields b p.place (within i) >>= λ _. Ok i.inside.rest in
    let a = bind_ok (item_at (is_tag_of tag) p) (λ i. inside i >>= λ v. Ok (v, i.after)) (c, q) e in
    let i : Item = a.0 in
    let m = bind_ok (inside i) (λ v. Ok (v, i.after)) (c, q) a.2 in
    let k = bind_ok (read_fields b p.place (within i)) (λ _. Ok i.inside.rest) m.0 m.1 in
    let pair = ok_is (m.0, i.after) (c, q) m.2 in
    record {
      item = i;
      fields = k.0;
      item_is = a.1;
      fields_are = k.1;
      contents_are = ok_is i.inside.rest m.0 k.2 ∙ ap (λ (y : List ℕ × Spot). y.0) pair;
      after_is = ap (λ (y : List ℕ × Spot). y.1) pair;
    }

-- what goes on alike gives the same
then_same : {A B : Type 0} (r : Result A Der) (g h : A → Result B Der) → ((v : A) → g v ≡ h v) → (r >>= g) ≡ (r >>= h)
then_same (Ok v) g h same = same v
then_same (Err e) g h same = refl

-- the same behind an item
same_then : {A B : Type 0} (r : Result Item Der) (f : Item → Result A Der) (g : Item → A → Result B Der) (h : Item → A → Result B Der) → ((i : Item) → r ≡ Ok i → (v : A) → g i v ≡ h i v) → (r >>= λ i. f i >>= g i) ≡ (r >>= λ i. f i >>= h i)
same_then (Err e) f g h same = refl
same_then {A = A} (Ok i) f g h same = then_same (f i) (g i) (h i) (same i refl)

-- more fuel than octets changes nothing
enough : {A B : Type 0} (key : List ℕ → List ℕ) (tag : ℕ) (f : ℕ → Spot → Result A Der) (g : ℕ → Spot → Result B Der) (m n : ℕ) (seen : List (List ℕ)) (p : Spot)
    → length p.rest ≤ m → length p.rest ≤ n → distinct_at key tag f g m seen p ≡ distinct_at key tag f g n seen p
unfolding distinct_at
enough key tag f g zero zero seen p a b = refl
enough key tag f g zero (suc n) seen p a b = let z : length p.rest ≡ 0 = omega arith in rw z refl
enough key tag f g (suc m) zero seen p a b = let z : length p.rest ≡ 0 = omega arith in rw z refl
enough {A} {B} key tag f g (suc m) (suc n) seen p a b =
    let turn : ℕ → Item → A → Result (List A) Der = λ k i v. cond (is_one_of seen (key i.inside.rest)) (refuse p.place Value)
    (g p.place (within i) >>= λ _. distinct_at key tag f g k (key i.inside.rest ∷ seen) i.after >>= λ vs. Ok (v ∷ vs)) in
    let next : (i : Item) → item_at (is_tag_of tag) p ≡ Ok i → (v : A) → turn m i v ≡ turn n i v = λ i e v.
    (let o = item_opens (is_tag_of tag) p i e in
    let same = enough key tag f g m n (key i.inside.rest ∷ seen) i.after (omega (arith, o.moves.less)) (omega (arith, o.moves.less)) in
    ap (λ (r : Result (List A) Der). cond (is_one_of seen (key i.inside.rest)) (refuse p.place Value) (g p.place (within i) >>= λ _. r >>= λ vs. Ok (v ∷ vs))) same) in
    elim (cases_Bool (eqb (length p.rest) 0)) [
      | inl h ↦ rw h refl
      | inr h ↦ rw h (same_then (item_at (is_tag_of tag) p) (λ i. f p.place (within i)) (turn m) (turn n) next)
    ]

-- the members from a spot on, where these keys were seen
abbrev pub members_at : (key : List ℕ → List ℕ) (tag : ℕ) (b also : Body) → List (List ℕ) → Spot → Result (Unit {0}) Der
members_at key tag b also seen p = skipped (distinct_at key tag (read_fields b) (read_fields also) (length p.rest) seen p)

-- one turn over the members
one_more : (key : List ℕ → List ℕ) (tag : ℕ) (b also : Body) (fuel : ℕ) (seen : List (List ℕ)) (p : Spot) → eqb (length p.rest) 0 ≡ false → length p.rest ≡ suc fuel
    → members_at key tag b also seen p ≡ skipped (item_at (is_tag_of tag) p >>= λ i. read_fields b p.place (within i) >>= λ v.
    cond (is_one_of seen (key i.inside.rest)) (refuse p.place Value) (read_fields also p.place (within i) >>= λ _. distinct_at key tag (read_fields b) (read_fields also) fuel (key i.inside.rest ∷ seen) i.after >>= λ vs. Ok (v ∷ vs)))
unfolding distinct_at
one_more key tag b also fuel seen p some is =
    ap (λ (k : ℕ). skipped (distinct_at key tag (read_fields b) (read_fields also) k seen p)) is ∙ rw some refl

-- a number that isn't 0 is one more than another
some_fuel : (n : ℕ) → eqb n 0 ≡ false → n ≡ suc (n - 1)
some_fuel n some = let pos : n ≢ 0 = eqb-false _ _ some in omega arith

-- a first member changes nothing in whether the rest is refused
front : {A : Type 0} (x : A) (r : Result (List A) Der) → skipped (r >>= λ xs. Ok (x ∷ xs)) ≡ skipped r
front x (Ok xs) = refl
front x (Err e) = refl

-- one member that is new
pub distinct_new : (key : List ℕ → List ℕ) (tag : ℕ) (b also : Body) (seen : List (List ℕ)) (p : Spot) (c : List ℕ) (q : Spot) → eqb (length p.rest) 0 ≡ false → (h : IsOwn tag b p c q)
    → is_one_of seen (key c) ≡ false → skipped (read_fields also p.place (within h.item)) ≡ Ok tt → members_at key tag b also seen p ≡ members_at key tag b also (key c ∷ seen) q
distinct_new key tag b also seen p c q some h new other =
    let m : ℕ = length p.rest - 1 in
    let w = skipped_value (read_fields also p.place (within h.item)) other in
    let o = item_opens (is_tag_of tag) p h.item h.item_is in
    let fresh : is_one_of seen (key h.item.inside.rest) ≡ false = ap (λ (z : List ℕ). is_one_of seen (key z)) h.contents_are ∙ new in
    let pos : length p.rest ≢ 0 = eqb-false _ _ some in
    one_more key tag b also m seen p some (some_fuel (length p.rest) some)
    ∙ rw (h.item_is, h.fields_are, fresh, w.1) (front h.fields (distinct_at key tag (read_fields b) (read_fields also) m (key h.item.inside.rest ∷ seen) h.item.after))
    ∙ ap skipped (enough key tag (read_fields b) (read_fields also) m (length h.item.after.rest) (key h.item.inside.rest ∷ seen) h.item.after (omega (arith, o.moves.less)) (omega arith))
    ∙ ap (λ (z : List ℕ). members_at key tag b also (key z ∷ seen) h.item.after) h.contents_are
    ∙ ap (members_at key tag b also (key c ∷ seen)) h.after_is

-- one that was seen
pub distinct_old : (key : List ℕ → List ℕ) (tag : ℕ) (b also : Body) (seen : List (List ℕ)) (p : Spot) (c : List ℕ) (q : Spot) → eqb (length p.rest) 0 ≡ false → (h : IsOwn tag b p c q)
    → is_one_of seen (key c) ≡ true → members_at key tag b also seen p ≡ refuse p.place Value
distinct_old key tag b also seen p c q some h old =
    let known : is_one_of seen (key h.item.inside.rest) ≡ true = ap (λ (z : List ℕ). is_one_of seen (key z)) h.contents_are ∙ old in
    one_more key tag b also (length p.rest - 1) seen p some (some_fuel (length p.rest) some) ∙ rw (h.item_is, h.fields_are, known) refl

-- one whose contents are refused once it is new
pub distinct_late : (key : List ℕ → List ℕ) (tag : ℕ) (b also : Body) (seen : List (List ℕ)) (p : Spot) (c : List ℕ) (q : Spot) (d : Der) → eqb (length p.rest) 0 ≡ false → (h : IsOwn tag b p c q)
    → is_one_of seen (key c) ≡ false → skipped (read_fields also p.place (within h.item)) ≡ Err d → members_at key tag b also seen p ≡ Err d
distinct_late key tag b also seen p c q d some h new other =
    let fresh : is_one_of seen (key h.item.inside.rest) ≡ false = ap (λ (z : List ℕ). is_one_of seen (key z)) h.contents_are ∙ new in
    let w = skipped_fault (read_fields also p.place (within h.item)) d other in
    one_more key tag b also (length p.rest - 1) seen p some (some_fuel (length p.rest) some) ∙ rw (h.item_is, h.fields_are, fresh, w) refl

-- what is kept of contents that were read, and the spot behind them
abbrev kept_then : {A : Type 0} → Result A Der → List ℕ → Spot → Result (List ℕ × Spot) Der
kept_then r c q = (r >>= λ _. Ok c) >>= λ v. Ok (v, q)

-- a refusal of kept contents is that of the contents
field_fault : {A B : Type 0} (r : Result A Der) (g : A → Result B Der) (c : List ℕ) (q : Spot) (d : Der) → kept_then r c q ≡ Err d → skipped (r >>= g) ≡ Err d
field_fault (Ok v) g c q d e = absurd cc
field_fault (Err e') g c q d e = cc

-- the same for the contents of an item
first_fault : {A B : Type 0} (r : Result Item Der) (f : Item → Result A Der) (g : Item → A → Result B Der) (d : Der)
    → (r >>= λ i. kept_then (f i) i.inside.rest i.after) ≡ Err d → skipped (r >>= λ i. f i >>= g i) ≡ Err d
first_fault (Err e) f g d bad = cc
first_fault (Ok i) f g d bad = field_fault (f i) (g i) i.inside.rest i.after d bad

-- a member whose own fields are refused
pub distinct_fault : (key : List ℕ → List ℕ) (tag : ℕ) (b also : Body) (seen : List (List ℕ)) (p : Spot) (d : Der) → eqb (length p.rest) 0 ≡ false
    → read (node tag (kept b)) p ≡ Err d → members_at key tag b also seen p ≡ Err d
unfolding read
distinct_fault key tag b also seen p d some e =
    let m : ℕ = length p.rest - 1 in
    one_more key tag b also m seen p some (some_fuel (length p.rest) some)
    ∙ first_fault (item_at (is_tag_of tag) p) (λ i. read_fields b p.place (within i))
    (λ i v. cond (is_one_of seen (key i.inside.rest)) (refuse p.place Value) (read_fields also p.place (within i) >>= λ _. distinct_at key tag (read_fields b) (read_fields also) m (key i.inside.rest ∷ seen) i.after >>= λ vs. Ok (v ∷ vs))) d e

-- nothing is left
pub distinct_last : (key : List ℕ → List ℕ) (tag : ℕ) (b also : Body) (seen : List (List ℕ)) (p : Spot) → eqb (length p.rest) 0 ≡ true → members_at key tag b also seen p ≡ Ok tt
unfolding distinct_at
distinct_last key tag b also seen p none = ap (λ (k : ℕ). skipped (distinct_at key tag (read_fields b) (read_fields also) k seen p)) (eqb-true _ _ none)

-- a list with a member is read as its members are
pub distinct_some : (key : List ℕ → List ℕ) (tag : ℕ) (b also : Body) (own : ℕ) (p : Spot) → eqb (length p.rest) 0 ≡ false → skipped (read_fields (distinct_of true key tag b also) own p) ≡ members_at key tag b also [] p
unfolding read
distinct_some key tag b also own p some = rw some refl

-- a list without one is refused
pub distinct_none : (key : List ℕ → List ℕ) (tag : ℕ) (b also : Body) (own : ℕ) (p : Spot) → eqb (length p.rest) 0 ≡ true → skipped (read_fields (distinct_of true key tag b also) own p) ≡ refuse own Value
unfolding read
distinct_none key tag b also own p none = rw none refl

-- the keys up to a spot, and one more
pub keys_more : (key : List ℕ → List ℕ) (tag : ℕ) (b : Body) (ks : List (List ℕ)) (p q m : Spot) (c k : List ℕ) → Keys key tag b ks p q → read (node tag (kept b)) q ≡ Ok (c, m) → key c ≡ k → Keys key tag b (ks ++ k ∷ []) p m
keys_more key tag b [] p q m c k h e is = (c, m, ap (read (node tag (kept b))) h ∙ e, is, refl)
keys_more key tag b (j ∷ ks) p q m c k h e is = (h.0, h.1, h.2, h.3, keys_more key tag b ks h.1 q m c k h.4 e is)

-- a member that was read moves the place on
place_up : (tag : ℕ) (b : Body) (p m : Spot) (c : List ℕ) → read (node tag (kept b)) p ≡ Ok (c, m) → p.place < m.place
place_up tag b p m c e = let h = moves (node tag (kept b)) p (c, m) e in omega (arith, h.less, h.place)

-- and so do several
pub keys_up : (key : List ℕ → List ℕ) (tag : ℕ) (b : Body) (ks : List (List ℕ)) (p q : Spot) → Keys key tag b ks p q → p.place ≤ q.place
keys_up key tag b [] p q h = let e = ap (λ (s : Spot). s.place) h in omega (arith, e)
keys_up key tag b (k ∷ ks) p q h = omega (arith, place_up tag b p h.1 h.0 h.2, keys_up key tag b ks h.1 q h.4)

-- where no member lies between two spots, no key does
pub keys_none : (key : List ℕ → List ℕ) (tag : ℕ) (b : Body) (ks : List (List ℕ)) (p q : Spot) (x : List ℕ) → Keys key tag b ks p q → q.place ≤ p.place → is_one_of ks x ≡ false
keys_none key tag b [] p q x h le = refl
keys_none key tag b (k ∷ ks) p q x h le = absurd (omega (arith, place_up tag b p h.1 h.0 h.2, keys_up key tag b ks h.1 q h.4))

-- the keys behind the first member
pub keys_step : (key : List ℕ → List ℕ) (tag : ℕ) (b : Body) (ks : List (List ℕ)) (p q : Spot) → Keys key tag b ks p q → p.place < q.place
    → (k : List ℕ) × (more : List (List ℕ)) × (k ∷ more ≡ ks) × ((c : List ℕ) × (m : Spot) × (read (node tag (kept b)) p ≡ Ok (c, m)) × (key c ≡ k) × Keys key tag b more m q)
keys_step key tag b [] p q h lt = let e = ap (λ (s : Spot). s.place) h in absurd (omega (arith, e))
keys_step key tag b (k ∷ ks) p q h lt = (k, ks, refl, h)

-- a key is among some and one more
pub one_of_more : (ks : List (List ℕ)) (k x : List ℕ) → is_one_of (ks ++ k ∷ []) x ≡ (same_octets x k || is_one_of ks x)
one_of_more [] k x = refl
one_of_more (j ∷ ks) k x = ap (λ (b : Bool). same_octets x j || b) (one_of_more ks k x) ∙ turn (same_octets x j) (same_octets x k) (is_one_of ks x)
  where
    turn : (a b c : Bool) → (a || (b || c)) ≡ (b || (a || c))
    turn true true c = refl
    turn true false c = refl
    turn false b c = refl

-- the contents of the first value that was spelled
pub first_is : (tag : ℕ) (c rest : List ℕ) → eqb (tag % 32) 31 ≡ false → length c < 18446744073709551616 → first_contents (tlv tag c ++ rest) ≡ c
unfolding first_contents
first_is tag c rest low small = ap contents_of_item (item_again (λ _. true) 0 0 tag c rest refl low small)
