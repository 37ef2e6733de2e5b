-- Primitive values whose contents are tested once they were read.
use Rattle.std.proofs.Common.{◌≡◌, ℕ, Bool, true, false, Ok, List, refl, ap, ◌∙◌}
use Rattle.dv_schema.specs.declared.refusal.Why.TheVariants.{Value}
use Rattle.dv_schema.specs.Rules.{any_octets}
use Rattle.dv_schema.specs.Reading.{Spot, Item, refuse, item_at, is_tag_of, within, read}
use Rattle.dv_schema.specs.Types.{primitive}
use Rattle.dv_schema.proofs.Tools.{bind_ok, ok_is}

-- contents that pass the test
pub tested_value : (tag : ℕ) (rule : List ℕ → Bool) (p : Spot) (x : List ℕ × Spot) → read (primitive tag any_octets) p ≡ Ok x → rule x.0 ≡ true → read (primitive tag rule) p ≡ Ok x
unfolding read
tested_value tag rule p x e ok =
    let b = bind_ok (item_at (is_tag_of tag) p) (λ (i : Item). Ok ((within i).rest, i.after)) x e in
    let is : ◌≡◌ {A = List ℕ × Spot} (b.0.inside.rest, b.0.after) x = ok_is _ _ b.2 in
    let passes : rule b.0.inside.rest ≡ true = ap (λ (y : List ℕ × Spot). rule y.0) is ∙ ok in
    rw (b.1, passes) b.2

-- contents that don't
pub tested_fault : (tag : ℕ) (rule : List ℕ → Bool) (p : Spot) (x : List ℕ × Spot) → read (primitive tag any_octets) p ≡ Ok x → rule x.0 ≡ false → read (primitive tag rule) p ≡ refuse p.place Value
unfolding read
tested_fault tag rule p x e bad =
    let b = bind_ok (item_at (is_tag_of tag) p) (λ (i : Item). Ok ((within i).rest, i.after)) x e in
    let is : ◌≡◌ {A = List ℕ × Spot} (b.0.inside.rest, b.0.after) x = ok_is _ _ b.2 in
    let fails : rule b.0.inside.rest ≡ false = ap (λ (y : List ℕ × Spot). rule y.0) is ∙ bad in
    rw (b.1, fails) refl
