-- What a use makes of the rows.
use Rattle.std.proofs.Common.{◌≡◌, ◌∙◌, ◌||◌, Bool, cond, true, false, refl, sym, ap, List, [], ◌∷◌, ◌++◌, Option, Some, None, is_some, true≢false}
use Rattle.std.specs.Str.{bytes_eq}
use Rattle.std.specs.Prelude.{unwrap_or, find, option_map}
use Rattle.std.proofs.lemmas.Slice.Eq.{bytes_eq-Decides}
use Rattle.clap.specs.Walk.{Row, all_of, at_row, has_row, more_values, stronger, with_values, without}
use Rattle.clap.specs.declared.builder.value_parser.Reading.{Reading}
use Rattle.clap.specs.declared.parser.matches.ValueSource.{ValueSource}
use Rattle.dv_words.specs.Uses.{Text}
use Rattle.dv_words.proofs.Building.{same_text}

pub has_row-all_of : (id : Text) (rows : List Row) → has_row id rows ≡ is_some (all_of id rows)
has_row-all_of id [] = refl
has_row-all_of id (r ∷ rs) = go (bytes_eq r.id id) (find (λ r. bytes_eq r.id id) rs) (has_row-all_of id rs)
  where
    go : (t : Bool) (o : Option Row) → has_row id rs ≡ is_some (option_map (λ r. r.values) o) → (t || has_row id rs) ≡ is_some (option_map (λ r. r.values) (cond t (Some r) o))
    go true o later = refl
    go false o later = later

pub without_none : (id : Text) (rows : List Row) → has_row id rows ≡ false → without id rows ≡ rows
without_none id [] h = refl
without_none id (r ∷ rs) h = go (bytes_eq r.id id) (without_none id rs) h
  where
    go : (t : Bool) → (has_row id rs ≡ false → without id rs ≡ rs) → (t || has_row id rs) ≡ false → cond t ([] ++ rs) (r ∷ without id rs) ≡ r ∷ rs
    go true later h = absurd (true≢false h)
    go false later h = ap (λ x. r ∷ x) (later h)

abbrev more : ValueSource → List Text → Row → Row
more s vs r = record r { values = r.values ++ vs; source = Some (stronger r.source s) }

abbrev after : Text → Reading → ValueSource → List Text → List Row → List Row
after id how s vs rs = at_row id (more_values s vs) (record { id = id; values = vs; count = None; source = Some s; reading = how } ∷ []) rs

abbrev vals : Option Row → Option (List Text)
vals o = option_map (λ (x : Row). x.values) o

here : (s : ValueSource) (vs : List Text) (r : Row) (t : Bool) (o p : Option Row) → o ≡ p → vals (cond t (Some (more s vs r)) o) ≡ cond t (Some (unwrap_or (vals (cond t (Some r) p)) [] ++ vs)) (vals (cond t (Some r) p))
here s vs r true o p e = refl
here s vs r false o p e = ap vals e

past : (vs : List Text) (r : Row) (t : Bool) (o p : Option Row) (u : Bool) → (t ≡ true → u ≡ false)
    → vals o ≡ cond u (Some (unwrap_or (vals p) [] ++ vs)) (vals p)
    → vals (cond t (Some r) o) ≡ cond u (Some (unwrap_or (vals (cond t (Some r) p)) [] ++ vs)) (vals (cond t (Some r) p))
past vs r true o p u differs later = ap (λ b. cond b (Some (r.values ++ vs)) (Some r.values)) (sym (differs refl))
past vs r false o p u differs later = later

differs : (r : Row) (id other : Text) (u : Bool) → bytes_eq r.id id ≡ false → bytes_eq id other ≡ u → bytes_eq r.id other ≡ true → u ≡ false
differs r id other false e is same = refl
differs r id other true e is same = absurd (true≢false (sym ((bytes_eq-Decides r.id id).1 (same_text r.id other same ∙ sym (same_text id other is))) ∙ e))

-- the values of `other` after values were put at `id`
pub all_of-with_values : (id other : Text) (how : Reading) (s : ValueSource) (vs : List Text) (rows : List Row)
    → all_of other (with_values id how s vs rows) ≡ cond (bytes_eq id other) (Some (unwrap_or (all_of other rows) [] ++ vs)) (all_of other rows)
all_of-with_values id other how s vs [] = go (bytes_eq id other)
  where
    go : (t : Bool) → option_map (λ (r : Row). r.values) (cond t (Some (record { id = id; values = vs; count = None; source = Some s; reading = how })) None) ≡ cond t (Some vs) None
    go true = refl
    go false = refl
all_of-with_values id other how s vs (r ∷ rs) = go (bytes_eq r.id id) refl (all_of-with_values id other how s vs rs)
  where
    go : (t : Bool) → bytes_eq r.id id ≡ t → all_of other (after id how s vs rs) ≡ cond (bytes_eq id other) (Some (unwrap_or (all_of other rs) [] ++ vs)) (all_of other rs)
        → all_of other (cond t (more s vs r ∷ [] ++ rs) (r ∷ after id how s vs rs)) ≡ cond (bytes_eq id other) (Some (unwrap_or (all_of other (r ∷ rs)) [] ++ vs)) (all_of other (r ∷ rs))
    go true e later = rw (← same_text r.id id e) (here s vs r (bytes_eq r.id other) (find (λ x. bytes_eq x.id other) rs) (find (λ x. bytes_eq x.id other) rs) refl)
    go false e later = past vs r (bytes_eq r.id other) (find (λ x. bytes_eq x.id other) (after id how s vs rs)) (find (λ x. bytes_eq x.id other) rs) (bytes_eq id other)
        (λ same. differs r id other (bytes_eq id other) e refl same) later
