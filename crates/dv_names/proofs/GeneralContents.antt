-- The contents of a general name, tag by tag.
use Rattle.std.proofs.Common.{◌≡◌, ◌≢◌, ℕ, ◌/◌, ◌%◌, eqb, true, false, Ok, refl, sym, subst}
use Rattle.std.proofs.lemmas.Bool.{eq-eqb, ne_eqb}
use Rattle.dv_schema.specs.Schema.{field, done, sequence_of}
use Rattle.dv_schema.specs.Types.{any}
use Rattle.dv_schema.specs.Fits.{inner}
use Rattle.dv_schema.specs.Reading.{Spot, read_fields}
use Rattle.dv_schema.specs.Answers.{skipped}
use Rattle.dv_names.specs.Types.{general_contents, name}

-- a spot over the contents of a value with this tag
abbrev pub opened : ℕ → Spot → Spot
opened tag p = record { levels = inner tag p.levels; place = p.place; rest = p.rest }

-- a directoryName holds a Name
pub directory : (tag place : ℕ) (p : Spot) → tag ≡ 164 → skipped (read_fields (general_contents tag) place (opened tag p)) ≡ skipped (read_fields (field name done) place p)
directory tag place p e = subst (λ (t : ℕ). skipped (read_fields (general_contents t) place (opened t p)) ≡ skipped (read_fields (field name done) place p)) (sym e) refl

-- the other constructed ones hold values
pub values : (tag place : ℕ) (p : Spot) → tag ≢ 164 → tag / 32 % 2 ≡ 1 → skipped (read_fields (general_contents tag) place (opened tag p)) ≡ skipped (read_fields (sequence_of false any) place p)
values tag place p ne e =
    let a : eqb tag 164 ≡ false = ne_eqb tag 164 ne in
    let b : eqb (tag / 32 % 2) 1 ≡ true = eq-eqb _ _ e in
    rw (a, b) refl

-- and the primitive ones anything
pub others : (tag place : ℕ) (p : Spot) → tag ≢ 164 → tag / 32 % 2 ≢ 1 → skipped (read_fields (general_contents tag) place (opened tag p)) ≡ Ok tt
unfolding read_fields
others tag place p ne e =
    let a : eqb tag 164 ≡ false = ne_eqb tag 164 ne in
    let b : eqb (tag / 32 % 2) 1 ≡ false = ne_eqb (tag / 32 % 2) 1 e in
    rw (a, b) refl
