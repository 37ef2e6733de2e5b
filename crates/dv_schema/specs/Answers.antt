-- What calls over a cursor answer, said by what reading gives.
use Rattle.std.specs.Prelude.{◌≡◌, ℕ, ◌+◌, ◌-◌, List, [], ◌∷◌, length, Result, Ok, Err, IsOkAnd}
use Rattle.std.specs.Borrow.{Bor}
use Rattle.dv_schema.specs.declared.refusal.Der.{Der}
use Rattle.dv_schema.specs.Schema.{Body, node, kept}
use Rattle.dv_schema.specs.Reading.{Spot, Item, ◌>>=◌, all_at, taken, next_at, order_at, read}

-- What a call answered, seen by view, and the spot that it left are what reading gives, and a refusal leaves the spot.
abbrev pub Reads : {X Y : Type 0} → (X → Y) → Result X Der → Spot → Spot → Result (Y × Spot) Der → Type 0
Reads view (Ok x) old new r = r ≡ Ok (view x, new)
Reads view (Err e) old new r = (r ≡ Err e) × (new ≡ old)

-- the same for a call that moves no spot
abbrev pub Gives : {X Y : Type 0} → (X → Y) → Result X Der → Result Y Der → Type 0
Gives view (Ok x) r = r ≡ Ok (view x)
Gives view (Err e) r = r ≡ Err e

-- the same for a call that tells nothing of the value
abbrev pub Passes : {Y : Type 0} → Result (Unit {0}) Der → Spot → Spot → Result (Y × Spot) Der → Type 0
Passes (Ok u) old new r = IsOkAnd r (λ x. x.1 ≡ new)
Passes (Err e) old new r = (r ≡ Err e) × (new ≡ old)

-- the same for a call that passes a value and tells its key
abbrev pub TellsKey : {X : Type 0} → (List ℕ → List ℕ) → (X → List ℕ) → Result X Der → Spot → Spot → Result (List ℕ × Spot) Der → Type 0
TellsKey key view (Ok x) old new r = IsOkAnd r (λ y. (y.1 ≡ new) × (key y.0 ≡ view x))
TellsKey key view (Err e) old new r = (r ≡ Err e) × (new ≡ old)

-- a spot over the contents, and the spot behind the value, are what reading gives
abbrev pub GivesItem : ℕ → Result (Spot × Spot) Der → Result Item Der → Type 0
GivesItem tag (Ok x) r = r ≡ Ok (record { tag = tag; inside = x.0; after = x.1 })
GivesItem tag (Err e) r = r ≡ Err e

-- the tag, a spot over the contents, the spot behind the value, and its octets
abbrev pub GivesAny : Result (ℕ × Spot × Spot × Bor (List ℕ)) Der → Spot → Result Item Der → Type 0
GivesAny (Ok x) p r = (r ≡ Ok (record { tag = x.0; inside = x.1; after = x.2 })) × (x.3.now ≡ taken p x.2)
GivesAny (Err e) p r = r ≡ Err e

-- a spot over the contents; the call leaves the spot behind the value, and a refusal leaves it where it was
abbrev pub Enters : ℕ → Result Spot Der → Spot → Spot → Result Item Der → Type 0
Enters tag (Ok x) old new r = r ≡ Ok (record { tag = tag; inside = x; after = new })
Enters tag (Err e) old new r = (r ≡ Err e) × (new ≡ old)

-- the same, with the tag that it was
abbrev pub EntersOne : Result (ℕ × Spot) Der → Spot → Spot → Result Item Der → Type 0
EntersOne (Ok x) old new r = r ≡ Ok (record { tag = x.0; inside = x.1; after = new })
EntersOne (Err e) old new r = (r ≡ Err e) × (new ≡ old)

-- the same for a primitive value, in which the levels are counted anew
abbrev pub EntersAnew : ℕ → Result Spot Der → Spot → Spot → Result Item Der → Type 0
EntersAnew tag (Ok x) old new r = (r ≡ Ok (record { tag = tag; inside = record { levels = old.levels - 1; place = x.place; rest = x.rest }; after = new }))
    × (x ≡ record { levels = 32; place = x.place; rest = x.rest })
EntersAnew tag (Err e) old new r = (r ≡ Err e) × (new ≡ old)

-- ---- for calls that go over members

-- whether it was refused, and nothing of the value
abbrev pub skipped : {A : Type 0} → Result A Der → Result (Unit {0}) Der
skipped (Ok x) = Ok tt
skipped (Err e) = Err e

-- how many members a list has, and so many more
abbrev pub counted : {A : Type 0} → ℕ → Result (List A) Der → Result ℕ Der
counted n r = r >>= λ xs. Ok (n + length xs)

-- what is left are values one after another, whatever they hold
unfoldable pub IsSplit : Spot → Type 0
IsSplit p = skipped (all_at next_at (length p.rest) p) ≡ Ok tt

-- the order of the values that are left
unfoldable pub ordered_at : Spot → Result (Unit {0}) Der
ordered_at p = all_at next_at (length p.rest) p >>= λ xs. order_at p.place xs

-- the keys of the members between two spots, in order
abbrev pub Keys : (key : List ℕ → List ℕ) (tag : ℕ) (b : Body) → List (List ℕ) → Spot → Spot → Type 0
Keys key tag b [] p q = p ≡ q
Keys key tag b (k ∷ ks) p q = (c : List ℕ) × (m : Spot) × (read (node tag (kept b)) p ≡ Ok (c, m)) × (key c ≡ k) × Keys key tag b ks m q
