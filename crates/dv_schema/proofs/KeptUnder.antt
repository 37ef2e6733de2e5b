-- A value that is known to have a spelling under one constructed tag has one under another.
use Rattle.std.proofs.Common.{◌≡◌, ℕ, ◌/◌, ◌%◌, eq-eqb, refl, subst}
use Rattle.std.proofs.Math.Logic.{∥∥₁_map}
use Rattle.dv_schema.specs.Schema.{node, Body, FieldsOf}
use Rattle.dv_schema.specs.Fits.{FieldsFit, inner}
use Rattle.dv_schema.specs.Decodes.{HasSpelling}

pub kept_under : (tag tag' : ℕ) (b : Body) (v : FieldsOf b) → tag / 32 % 2 ≡ 1 → tag' / 32 % 2 ≡ 1 → ∥ HasSpelling (node tag b) v ∥₁ → ∥ HasSpelling (node tag' b) v ∥₁
unfolding HasSpelling
kept_under tag tag' b v e e' h =
    let same : inner tag 31 ≡ inner tag' 31 = rw (eq-eqb _ _ e, eq-eqb _ _ e') refl in
    ∥∥₁_map h (λ f. ((f.0.0, f.0.1, subst (λ (n : ℕ). FieldsFit b n v) same f.0.2), f.1))
