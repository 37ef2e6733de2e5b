-- What a decoder of a schema answers: this is the public contract of each `decode`.
use Rattle.std.specs.Prelude.{◌≡◌, ℕ, ◌+◌, ◌<◌, ◌^◌, List, ◌++◌, length, Result, Ok, Err, IfOk, IsOkAnd}
use Rattle.dv_schema.specs.declared.refusal.Der.{Der}
use Rattle.dv_schema.specs.Schema.{Schema, Body, ValueOf, spelling}
use Rattle.dv_schema.specs.Fits.{Fits}
use Rattle.dv_schema.specs.Reading.{Spot, read, read_fields, read_all}
use Rattle.dv_schema.specs.Answers.{Reads, Gives}

-- a decoder over a cursor; view gives the value of the schema that the answer stands for
pub record Decodes {X : Type 0} (s : Schema) (view : X → ValueOf s) (result : Result X Der) (old new : Spot) : Type 0 where
  -- it is the value that is read, or the first refusal, which leaves the cursor
  pub exact : Reads view result old new (read s old)
  -- what is read fits and is spelled so, and the cursor stands behind it
  pub found : IfOk result (λ x. Fits s old.levels (view x) × (old.rest ≡ spelling s (view x) ++ new.rest) × (new.place ≡ old.place + length (spelling s (view x))) × (new.levels ≡ old.levels))
  -- what fits and is spelled so is read, whatever follows
  pub only : (v : ValueOf s) (rest : List ℕ) → Fits s old.levels v → old.rest ≡ spelling s v ++ rest → IsOkAnd result (λ x. view x ≡ v) × (new.rest ≡ rest)

-- a decoder over a slice, of which nothing may be left
pub record DecodesAll {X : Type 0} (s : Schema) (view : X → ValueOf s) (result : Result X Der) (start : Spot) : Type 0 where
  -- it is the value that is read, or the first refusal
  pub exact : Gives view result (read_all s start)
  -- what is read fits and is spelled so
  pub found : IfOk result (λ x. Fits s start.levels (view x) × (start.rest ≡ spelling s (view x)))
  -- what fits and is spelled so is read
  pub only : (v : ValueOf s) → Fits s start.levels v → start.rest ≡ spelling s v → IsOkAnd result (λ x. view x ≡ v)

-- A value that has a spelling, of fewer than 2^64 octets, as a slice can hold it. What fits with fewer levels fits with 32. Types of
-- values keep this of their fields.
unfoldable pub HasSpelling : (s : Schema) → ValueOf s → Type 0
HasSpelling s v = Fits s 32 v × (length (spelling s v) < 2 ^ 64)

-- The values of a type are read from their spellings, whatever follows: what an outermost decoder reads of what was written is the
-- value that was written.
abbrev pub ReadsBack : {X : Type 0} (s : Schema) → (X → ValueOf s) → Type 0
ReadsBack {X} s view = (x : X) (p : Spot) (rest : List ℕ) → p.levels ≡ 32 → p.rest ≡ spelling s (view x) ++ rest
    → read s p ≡ Ok (view x, record { levels = p.levels; place = p.place + length (spelling s (view x)); rest = rest })

-- what is left begins with a value's spelling
abbrev pub IsSpelled : (s : Schema) → Spot → Type 0
IsSpelled s p = (v : ValueOf s) × (rest : List ℕ) × Fits s p.levels v × (p.rest ≡ spelling s v ++ rest)

-- A refusal that comes behind a field: the field's value fits and is spelled, and the refusal is that of what follows it.
pub record RefusedBehind {A : Type 0} (spell : A → List ℕ) (IsFit : A → Type 0) (b : Body) (own : ℕ) (p : Spot) (d : Der) : Type 0 where
  pub value : A
  pub rest : List ℕ
  pub octets : p.rest ≡ spell value ++ rest
  pub fits : IsFit value
  pub refused : read_fields b own (record { levels = p.levels; place = p.place + length (spell value); rest = rest }) ≡ Err d
