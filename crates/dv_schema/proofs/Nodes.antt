-- A value whose item is entered and whose contents are checked.
use Rattle.std.proofs.Common.{◌≡◌, ℕ, ◌/◌, ◌%◌, true, eqb, eq-eqb, Result, Ok, Err, refl, ap, ◌∙◌}
use Rattle.dv_schema.specs.declared.refusal.Der.{Der}
use Rattle.dv_schema.specs.Schema.{Schema, node, raw, Body, kept}
use Rattle.dv_schema.specs.Reading.{Spot, Item, item_at, taken, read, read_fields, is_tag_of, within}
use Rattle.dv_schema.specs.Answers.{skipped, Passes}

-- what isn't refused was read
pub skipped_value : {A : Type 0} (r : Result A Der) → skipped r ≡ Ok tt → (x : A) × (r ≡ Ok x)
skipped_value (Ok x) e = (x, refl)
skipped_value (Err d) e = absurd cc

-- what is refused was refused
pub skipped_fault : {A : Type 0} (r : Result A Der) (d : Der) → skipped r ≡ Err d → r ≡ Err d
skipped_fault (Ok x) d e = absurd cc
skipped_fault (Err b) d e = cc

-- a value is passed where its item is entered and its contents aren't refused
pub node_passes : (tag : ℕ) (b : Body) (p : Spot) (i : Item) → item_at (is_tag_of tag) p ≡ Ok i → skipped (read_fields b p.place (within i)) ≡ Ok tt → Passes (Ok tt) p i.after (read (node tag b) p)
unfolding read
node_passes tag b p i item inside =
    let v = skipped_value (read_fields b p.place (within i)) inside in
    rw (item, v.1) refl

-- a value is refused where its contents are
pub node_fault : (tag : ℕ) (b : Body) (p : Spot) (i : Item) (d : Der) → item_at (is_tag_of tag) p ≡ Ok i → skipped (read_fields b p.place (within i)) ≡ Err d → read (node tag b) p ≡ Err d
unfolding read
node_fault tag b p i d item inside = rw (item, skipped_fault (read_fields b p.place (within i)) d inside) refl

-- a value that is kept whole is its octets
pub raw_value : (tag : ℕ) (b : Body) (p : Spot) (i : Item) → item_at (is_tag_of tag) p ≡ Ok i → skipped (read_fields b p.place (within i)) ≡ Ok tt → read (raw (node tag b)) p ≡ Ok (taken p i.after, i.after)
unfolding read
raw_value tag b p i item inside =
    let v = skipped_value (read_fields b p.place (within i)) inside in
    rw (item, v.1) refl

-- and is refused where the value is
pub raw_fault : (s : Schema) (p : Spot) (d : Der) → read s p ≡ Err d → read (raw s) p ≡ Err d
unfolding read
raw_fault s p d e = rw e refl

-- contents that are kept are their octets
pub kept_value : (b : Body) (own : ℕ) (p : Spot) → skipped (read_fields b own p) ≡ Ok tt → read_fields (kept b) own p ≡ Ok p.rest
unfolding read
kept_value b own p e = let v = skipped_value (read_fields b own p) e in rw v.1 refl

-- and are refused where the contents are
pub kept_fault : (b : Body) (own : ℕ) (p : Spot) (d : Der) → skipped (read_fields b own p) ≡ Err d → read_fields (kept b) own p ≡ Err d
unfolding read
kept_fault b own p d e = rw (skipped_fault (read_fields b own p) d e) refl

-- inside a constructed value the levels go on
within_constructed : (i : Item) → i.tag / 32 % 2 ≡ 1 → within i ≡ i.inside
within_constructed i e = let t : eqb (i.tag / 32 % 2) 1 ≡ true = eq-eqb _ _ e in rw t refl

-- a constructed value whose contents are kept
pub constructed_value : (tag : ℕ) (b : Body) (p inside after : Spot) → tag / 32 % 2 ≡ 1 → item_at (is_tag_of tag) p ≡ Ok (record { tag = tag; inside = inside; after = after })
    → skipped (read_fields b p.place inside) ≡ Ok tt → read (node tag (kept b)) p ≡ Ok (inside.rest, after)
unfolding read
constructed_value tag b p inside after e item ok =
    let i : Item = record { tag = tag; inside = inside; after = after } in
    let v = skipped_value (read_fields b p.place (within i)) (ap (λ (q : Spot). skipped (read_fields b p.place q)) (within_constructed i e) ∙ ok) in
    rw (item, v.1) refl

-- and one whose contents are refused
pub constructed_fault : (tag : ℕ) (b : Body) (p inside after : Spot) (d : Der) → tag / 32 % 2 ≡ 1 → item_at (is_tag_of tag) p ≡ Ok (record { tag = tag; inside = inside; after = after })
    → skipped (read_fields b p.place inside) ≡ Err d → read (node tag (kept b)) p ≡ Err d
unfolding read
constructed_fault tag b p inside after d e item bad =
    let i : Item = record { tag = tag; inside = inside; after = after } in
    let v = skipped_fault (read_fields b p.place (within i)) d (ap (λ (q : Spot). skipped (read_fields b p.place q)) (within_constructed i e) ∙ bad) in
    rw (item, v) refl

-- and one that isn't there
pub constructed_missing : (tag : ℕ) (b : Body) (p : Spot) (d : Der) → item_at (is_tag_of tag) p ≡ Err d → read (node tag (kept b)) p ≡ Err d
unfolding read
constructed_missing tag b p d e = rw e refl
