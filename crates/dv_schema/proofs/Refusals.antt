-- Where contents are refused: the fields before the refused one fit and are spelled.
use Rattle.std.proofs.Common.{◌≡◌, ◌⊎◌, ℕ, ◌+◌, Bool, true, false, Some, None, Result, Ok, Err, List, ◌++◌, length, refl, sym, ap, ◌∙◌, inl, inr, arith}
use Rattle.std.specs.Prelude.{IfSome, IsTrue}
use Rattle.dv_schema.specs.declared.refusal.Der.{Der}
use Rattle.dv_schema.specs.Octets.{IsBytes}
use Rattle.dv_schema.specs.Schema.{Schema, Body, field, optional, ValueOf, FieldsOf, spelling, spelled_if, starts}
use Rattle.dv_schema.specs.Fits.{Fits}
use Rattle.dv_schema.specs.Reading.{Spot, ◌>>=◌, read, read_fields, maybe_at, starts_list}
use Rattle.dv_schema.specs.Decodes.{RefusedBehind}
use Rattle.dv_schema.proofs.Items.{at}
use Rattle.dv_schema.proofs.Takes.{takes}

-- what only changes an answer refuses nothing
then_fault : {A B : Type 0} (r : Result A Der) (f : A → B) (d : Der) → (r >>= λ x. Ok (f x)) ≡ Err d → r ≡ Err d
then_fault (Ok x) f d e = absurd cc
then_fault (Err b) f d e = cc

-- a spot is its three parts
spot_is : (q : Spot) (levels place : ℕ) → q.levels ≡ levels → q.place ≡ place → q ≡ at levels place q.rest
spot_is q levels place a b = ap (λ (k : ℕ). at k q.place q.rest) a ∙ ap (λ (k : ℕ). at levels k q.rest) b

-- a field's value, and what follows it
abbrev paired : {A : Type 0} (b : Body) → A → FieldsOf b → Result (A × FieldsOf b) Der
paired b x w = Ok (x, w)

-- a refusal behind a field that was read
behind : {A : Type 0} (spell : A → List ℕ) (IsFit : A → Type 0) (b : Body) (own : ℕ) (p : Spot) (d : Der) (x : A) (q : Spot)
    → p.rest ≡ spell x ++ q.rest → IsFit x → q.levels ≡ p.levels → q.place ≡ p.place + length (spell x) → (read_fields b own q >>= paired b x) ≡ Err d
    → RefusedBehind spell IsFit b own p d
behind {A} spell IsFit b own p d x q octets fits levels place h =
    let pair : FieldsOf b → A × FieldsOf b = λ w. (x, w) in
    let more : read_fields b own q ≡ Err d = then_fault (read_fields b own q) pair d h in
    record {
      value = x;
      rest = q.rest;
      octets = octets;
      fits = fits;
      refused = ap (read_fields b own) (sym (spot_is q p.levels (p.place + length (spell x)) levels place)) ∙ more;
    }

-- what follows a field
abbrev with_rest : {A : Type 0} (b : Body) (own : ℕ) → A × Spot → Result (A × FieldsOf b) Der
with_rest b own x = read_fields b own x.1 >>= paired b x.0

-- a refusal among fields, by what reading the first one gives
refused_by : (s : Schema) (b : Body) (own : ℕ) (p : Spot) (d : Der) (r : Result (ValueOf s × Spot) Der) → IsBytes p.rest → read s p ≡ r → (r >>= with_rest b own) ≡ Err d
    → (read s p ≡ Err d) ⊎ RefusedBehind (spelling s) (Fits s p.levels) b own p d
refused_by s b own p d (Err c) bytes e h = inl cc
refused_by s b own p d (Ok x) bytes e h =
    let t = takes s p x bytes e in
    inr (behind (spelling s) (Fits s p.levels) b own p d x.0 x.1 t.0.octets t.1 t.0.levels t.0.place h)

-- A refusal among fields is that of the first, or comes behind the first, which is spelled.
pub refused_field : (s : Schema) (b : Body) (own : ℕ) (p : Spot) (d : Der) → IsBytes p.rest → read_fields (field s b) own p ≡ Err d
    → (read s p ≡ Err d) ⊎ RefusedBehind (spelling s) (Fits s p.levels) b own p d
unfolding read
refused_field s b own p d bytes e = refused_by s b own p d (read s p) bytes refl e

-- the same for a field that may be absent, and is there
optional_there : (s : Schema) (b : Body) (own : ℕ) (p : Spot) (d : Der) (r : Result (ValueOf s × Spot) Der) → IsBytes p.rest → read s p ≡ r → (maybe_at true p r >>= with_rest b own) ≡ Err d
    → (read s p ≡ Err d) ⊎ RefusedBehind (spelled_if (spelling s)) (λ o. IfSome o (Fits s p.levels)) b own p d
optional_there s b own p d (Err c) bytes e h = inl cc
optional_there s b own p d (Ok x) bytes e h =
    let t = takes s p x bytes e in
    inr (behind (spelled_if (spelling s)) (λ o. IfSome o (Fits s p.levels)) b own p d (Some x.0) x.1 t.0.octets t.1 t.0.levels t.0.place h)

-- and whether it is there or not
optional_by : (s : Schema) (b : Body) (own : ℕ) (p : Spot) (d : Der) (there : Bool) → IsBytes p.rest → starts_list (starts s) p.rest ≡ there → (maybe_at there p (read s p) >>= with_rest b own) ≡ Err d
    → (IsTrue (starts_list (starts s) p.rest) × (read s p ≡ Err d)) ⊎ RefusedBehind (spelled_if (spelling s)) (λ o. IfSome o (Fits s p.levels)) b own p d
optional_by s b own p d true bytes t h =
    elim (optional_there s b own p d (read s p) bytes refl h) [
      | inl e ↦ inl (t, e)
      | inr e ↦ inr e
    ]
optional_by s b own p d false bytes t h =
    let place : p.place ≡ p.place + 0 = omega arith in
    inr (behind (spelled_if (spelling s)) (λ o. IfSome o (Fits s p.levels)) b own p d None p refl tt refl place h)

-- The same for a field that may be absent: it is refused only where its tag is there.
pub refused_optional : (s : Schema) (b : Body) (own : ℕ) (p : Spot) (d : Der) → IsBytes p.rest → read_fields (optional s b) own p ≡ Err d
    → (IsTrue (starts_list (starts s) p.rest) × (read s p ≡ Err d)) ⊎ RefusedBehind (spelled_if (spelling s)) (λ o. IfSome o (Fits s p.levels)) b own p d
unfolding read
refused_optional s b own p d bytes e = optional_by s b own p d (starts_list (starts s) p.rest) bytes refl e
