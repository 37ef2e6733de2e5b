-- A decoder that answers as reading does decodes exactly the spellings.
use Rattle.std.proofs.Common.{◌≡◌, ℕ, ◌+◌, true, cond, eqb, Result, Ok, Err, List, [], ◌++◌, length, refl, sym, ap, subst, ◌∙◌}
use Rattle.std.proofs.lemmas.List.{append-nil, nil_from_length}
use Rattle.std.proofs.lemmas.Bool.{eqb-true}
use Rattle.dv_schema.specs.declared.refusal.Der.{Der}
use Rattle.dv_schema.specs.declared.refusal.Why.TheVariants.{Trailing}
use Rattle.dv_schema.specs.Fits.{Fits}
use Rattle.dv_schema.specs.Octets.{IsBytes}
use Rattle.dv_schema.specs.Schema.{Schema, ValueOf, spelling}
use Rattle.dv_schema.specs.Clear.{is_clear}
use Rattle.dv_schema.specs.Reading.{Spot, refuse, read, read_all}
use Rattle.dv_schema.specs.Answers.{Reads, Gives}
use Rattle.dv_schema.specs.Decodes.{Decodes, DecodesAll}
use Rattle.dv_schema.proofs.Tools.{bind_ok, ok_is, allowed}
use Rattle.dv_schema.proofs.Items.{at}
use Rattle.dv_schema.proofs.Takes.{takes}
use Rattle.dv_schema.proofs.Again.{spelled}

-- over a cursor
pub decodes : {X : Type 0} (s : Schema) (view : X → ValueOf s) (result : Result X Der) (old new : Spot) → is_clear s ≡ true → IsBytes old.rest → Reads view result old new (read s old) → Decodes s view result old new
decodes {X} s view (Ok x) old new clear fits e =
    let t = takes s old (view x, new) fits e in
    record {
      exact = e;
      found = (t.1, t.0.octets, t.0.place, t.0.levels);
      only = λ v rest f same.
          (let here = spelled s old v rest clear f same in
          let last : Spot = at old.levels (old.place + length (spelling s v)) rest in
          let pair = ok_is (view x, new) (v, last) (sym e ∙ here) in
          (ap (λ (y : ValueOf s × Spot). y.0) pair, ap (λ (y : ValueOf s × Spot). y.1.rest) pair));
    }
decodes {X} s view (Err d) old new clear fits e =
    record {
      exact = e;
      found = tt;
      only = λ v rest f same. (let here = spelled s old v rest clear f same in let refused = e.0 in absurd cc);
    }

-- what is read from the whole of a slice is the value that it spells
pub slice_takes : (s : Schema) (p : Spot) (v : ValueOf s) → IsBytes p.rest → read_all s p ≡ Ok v → Fits s p.levels v × (p.rest ≡ spelling s v)
slice_takes s p v fits e =
    let a = bind_ok (read s p) (λ y. cond (eqb (length y.1.rest) 0) (Ok y.0) (refuse y.1.place Trailing)) v e in
    let g = allowed (eqb (length a.0.1.rest) 0) _ (Ok a.0.0) v a.2 in
    let t = takes s p a.0 fits a.1 in
    let none : a.0.1.rest ≡ [] = nil_from_length a.0.1.rest (eqb-true _ _ g.0) in
    let P : ValueOf s → Type 0 = λ w. Fits s p.levels w × (p.rest ≡ spelling s w) in
    let text : p.rest ≡ spelling s a.0.0 = t.0.octets ∙ ap (λ (l : List ℕ). spelling s a.0.0 ++ l) none ∙ append-nil (spelling s a.0.0) in
    subst P (ok_is a.0.0 v g.1) (t.1, text)

-- and what it spells is read
pub slice_spelled : (s : Schema) (p : Spot) (v : ValueOf s) → is_clear s ≡ true → Fits s p.levels v → p.rest ≡ spelling s v → read_all s p ≡ Ok v
slice_spelled s p v clear f same =
    let here = spelled s p v [] clear f (same ∙ sym (append-nil (spelling s v))) in
    rw here refl

-- a decoder that answers as reading the whole of a slice does decodes exactly the spellings
pub decodes_all : {X : Type 0} (s : Schema) (view : X → ValueOf s) (result : Result X Der) (p : Spot) → is_clear s ≡ true → IsBytes p.rest → Gives view result (read_all s p) → DecodesAll s view result p
decodes_all {X} s view (Ok x) p clear fits e =
    let made = slice_takes s p (view x) fits e in
    record {
      exact = e;
      found = made;
      only = λ v f same. ok_is (view x) v (sym e ∙ slice_spelled s p v clear f same);
    }
decodes_all {X} s view (Err d) p clear fits e =
    record {
      exact = e;
      found = tt;
      only = λ v f same. (let whole = slice_spelled s p v clear f same in absurd cc);
    }
