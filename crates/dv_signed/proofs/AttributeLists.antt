-- Going over attributes that were read.
use Rattle.std.proofs.Common.{◌≡◌, ◌∙◌, ◌<◌, ℕ, true, false, Option, Some, None, Result, Ok, Err, List, [], ◌∷◌, length, drop, eqb, map, not, inl, inr, refl, sym, ap, arith}
use Rattle.std.specs.Prelude.{IfSome, is_some}
use Rattle.std.proofs.lemmas.Bool.{cases_Bool, eqb-true, ne_eqb}
use Rattle.dv_schema.specs.declared.refusal.Der.{Der}
use Rattle.dv_schema.specs.Octets.{are_apart, same_octets}
use Rattle.dv_schema.specs.Schema.{Schema, ValueOf}
use Rattle.dv_schema.specs.Types.{any}
use Rattle.dv_schema.specs.Reading.{Spot, ◌>>=◌, all_at, read}
use Rattle.dv_schema.proofs.Counts.{member_fault, member_none, member_turn}
use Rattle.dv_schema.proofs.Moves.{moves, read_moves, skip_err}
use Rattle.dv_schema.proofs.Nodes.{skipped_fault}
use Rattle.dv_schema.proofs.Orders.{all_one}
use Rattle.dv_members.specs.Members.{front_of, or_none, values_in}
use Rattle.dv_cms.specs.Types.{attribute}
use Rattle.dv_x509.specs.Uses.{first_named}
use Rattle.dv_repeats.specs.Lists.{AreApartUpTo, AreKeys}
use Rattle.dv_signed.specs.Attributes.{one_value, type_of}
use Rattle.dv_signed.specs.Turns.{attribute_turn, type_read}

-- the first of the members that are left
pub record IsTurn (s : Schema) (p : Spot) (vs : List (ValueOf s)) : Type 0 where
  pub first : ValueOf s × Spot
  pub more : List (ValueOf s)
  pub is_read : read s p ≡ Ok first
  pub left : all_at (read s) (length first.1.rest) first.1 ≡ Ok more
  pub all : first.0 ∷ more ≡ vs

pub next_turn : (s : Schema) (p : Spot) (vs : List (ValueOf s)) → eqb (length p.rest) 0 ≡ false → all_at (read s) (length p.rest) p ≡ Ok vs → IsTurn s p vs
next_turn s p vs some e = go (read s p) refl
  where
    go : (r : Result (ValueOf s × Spot) Der) → read s p ≡ r → IsTurn s p vs
    go (Ok x) is = let t = member_turn s p x vs some is e in record { first = x; more = t.0; is_read = is; left = t.1; all = t.2 }
    go (Err d) is = absurd (member_fault s p d vs some is e)

-- the first attribute has the type
pub types_here : (id : List ℕ) (v : ValueOf attribute) (vs : List (ValueOf attribute)) → same_octets id (type_of v) ≡ true → Some v ≡ first_named type_of id (v ∷ vs)
types_here id v vs e = rw e refl

-- or another
pub types_behind : (id : List ℕ) (v : ValueOf attribute) (vs : List (ValueOf attribute)) → same_octets id (type_of v) ≡ false → first_named type_of id vs ≡ first_named type_of id (v ∷ vs)
types_behind id v vs e = rw e refl

-- the first of some attributes
abbrev head_or : ValueOf attribute → List (ValueOf attribute) → ValueOf attribute
head_or d [] = d
head_or d (v ∷ vs) = v

-- the types of attributes that were read, one after another to their end
pub types_between : (p : Spot) (vs : List (ValueOf attribute)) → all_at (read attribute) (length p.rest) p ≡ Ok vs → (q : Spot) × (length q.rest ≡ 0) × AreKeys attribute_turn (map type_of vs) p q
types_between p [] e =
    elim (cases_Bool (eqb (length p.rest) 0)) [
      | inl t ↦ (p, eqb-true (length p.rest) 0 t, refl)
      | inr f ↦ absurd (let t = next_turn attribute p [] f e in let bad = t.all in cc)
    ]
types_between p (v ∷ vs) e = go (λ q. types_between q vs)
  where
    go : ((q : Spot) → all_at (read attribute) (length q.rest) q ≡ Ok vs → (r : Spot) × (length r.rest ≡ 0) × AreKeys attribute_turn (map type_of vs) q r) → (r : Spot) × (length r.rest ≡ 0) × AreKeys attribute_turn (map type_of (v ∷ vs)) p r
    go behind =
        elim (cases_Bool (eqb (length p.rest) 0)) [
          | inl none ↦ absurd (let bad = member_none attribute p (v ∷ vs) none e in cc)
          | inr some ↦ (let t = next_turn attribute p (v ∷ vs) some e in
              let here : t.first.0 ≡ v = ap (λ (l : List (ValueOf attribute)). head_or v l) t.all in
              let left : all_at (read attribute) (length t.first.1.rest) t.first.1 ≡ Ok vs = t.left ∙ ap (λ (l : List (ValueOf attribute)). Ok (drop 1 l)) t.all in
              let more = behind t.first.1 left in
              let told : attribute_turn p ≡ Some (type_of v, t.first.1) = ap type_read t.is_read ∙ ap (λ (a : ValueOf attribute). Some (type_of a, t.first.1)) here in
              (more.0, more.1, (t.first.1, told, more.2)))
        ]

-- whether a type is told to be repeated is whether two are the same
pub repeats_told : (p : Spot) (vs : List (ValueOf attribute)) (repeated : Option ℕ) → all_at (read attribute) (length p.rest) p ≡ Ok vs
    → ((ks : List (List ℕ)) (q : Spot) → AreKeys attribute_turn ks p q → AreApartUpTo ks repeated)
    → ((ks : List (List ℕ)) (q : Spot) → AreKeys attribute_turn ks p q → length q.rest ≡ 0 → IfSome repeated (λ first. first < length ks))
    → is_some repeated ≡ not (are_apart [] (map type_of vs))
repeats_told p vs repeated e first within =
    let t = types_between p vs e in
    go repeated (first (map type_of vs) t.0 t.2) (within (map type_of vs) t.0 t.2 t.1)
  where
    go : (r : Option ℕ) → AreApartUpTo (map type_of vs) r → IfSome r (λ first. first < length (map type_of vs)) → is_some r ≡ not (are_apart [] (map type_of vs))
    go None apart w = sym (ap not apart)
    go (Some n) apart w =
        elim (cases_Bool (are_apart [] (map type_of vs))) [
          | inl t ↦ absurd (let least = apart.0 t in omega (arith, least, w))
          | inr f ↦ sym (ap not f)
        ]

-- ---- the one value of a set

-- behind the last value there is none
none_left : (p : Spot) → eqb (length p.rest) 0 ≡ true → all_at (read any) (length p.rest) p ≡ Ok []
unfolding all_at
none_left p none = ap (λ (k : ℕ). all_at (read any) k p) (eqb-true _ _ none)

-- where a value was read there are octets
some_read : (p : Spot) (x : List ℕ × Spot) → read any p ≡ Ok x → eqb (length p.rest) 0 ≡ false
some_read p x e = let m = moves any p x e in ne_eqb (length p.rest) 0 (λ z. absurd (omega (arith, m.less, z)))

-- nothing but one value
pub one_alone : (octets : List ℕ) (x : List ℕ × Spot) → read any (front_of octets) ≡ Ok x → eqb (length x.1.rest) 0 ≡ true → Some x.0 ≡ one_value (Some (values_in any octets))
unfolding values_in
one_alone octets x e none =
    let end = none_left x.1 none in
    let all = all_one (read any) (front_of octets) x (read_moves any) (some_read (front_of octets) x e) e in
    rw (all, end) refl

-- two values and more, or a refusal
not_one : (x y : List ℕ) (r : Result (List (List ℕ)) Der) → None ≡ one_value (Some (or_none ((r >>= λ ys. Ok (y ∷ ys)) >>= λ xs. Ok (x ∷ xs))))
not_one x y (Ok ys) = refl
not_one x y (Err d) = refl

-- more behind the first value
pub one_of_many : (octets : List ℕ) (x : List ℕ × Spot) → read any (front_of octets) ≡ Ok x → eqb (length x.1.rest) 0 ≡ false → None ≡ one_value (Some (values_in any octets))
unfolding values_in
one_of_many octets x e some = go (read any x.1) refl
  where
    all : all_at (read any) (length octets) (front_of octets) ≡ (all_at (read any) (length x.1.rest) x.1 >>= λ xs. Ok (x.0 ∷ xs))
    all = all_one (read any) (front_of octets) x (read_moves any) (some_read (front_of octets) x e) e

    go : (r : Result (List ℕ × Spot) Der) → read any x.1 ≡ r → None ≡ one_value (Some (or_none (all_at (read any) (length octets) (front_of octets))))
    go (Ok y) is =
        let more = all_one (read any) x.1 y (read_moves any) some is in
        rw (all, more) (not_one x.0 y.0 (all_at (read any) (length y.1.rest) y.1))
    go (Err d) is = let bad = skipped_fault (all_at (read any) (length x.1.rest) x.1) d (skip_err (read any) x.1 d some is) in rw (all, bad) refl

-- no value at the front
pub one_refused : (octets : List ℕ) (d : Der) → read any (front_of octets) ≡ Err d → None ≡ one_value (Some (values_in any octets))
unfolding values_in
one_refused octets d e =
    elim (cases_Bool (eqb (length octets) 0)) [
      | inl t ↦ (let end = none_left (front_of octets) t in rw end refl)
      | inr f ↦ (let bad = skipped_fault (all_at (read any) (length octets) (front_of octets)) d (skip_err (read any) (front_of octets) d f e) in rw bad refl)
    ]
