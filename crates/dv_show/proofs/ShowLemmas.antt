-- The values of a file, one after another.
use Rattle.std.proofs.Common.{◌≡◌, ◌≢◌, ◌∙◌, ◌++◌, ◌<◌, ◌≤◌, ◌==◌, ◌∷◌, [], ℕ, length, arith, append_assoc, eqb-true, true, false, List, refl, sym, ap, subst, true≢false}
use Rattle.std.proofs.lemmas.List.{append-nil, nil_from_length}
use Rattle.dv_schema.specs.Reading.{Spot}
use Rattle.dv_show.specs.declared.shown.Shown.{Shown}
use Rattle.dv_show.specs.Lines.{line_for}
use Rattle.dv_show.specs.Show.{AreShown, octets_of_all, ShowOf, text_of_all, Values}
use Rattle.dv_show.specs.Values.{IsShown}

-- The values before the rest were shown, and where the file is values one after another, so is the rest, which has one at least.
pub record Showing (file : List ℕ) (rest : Spot) (text : List ℕ) : Type 0 where
  pub levels : rest.levels ≡ 32
  pub short : length rest.rest ≤ length file
  pub done : (values : Values) × AreShown values × (file ≡ octets_of_all values ++ rest.rest) × (text ≡ text_of_all values)
  pub left : (values : Values) → values ≢ [] → AreShown values → file ≡ octets_of_all values → (more : Values) × (more ≢ []) × AreShown more × (rest.rest ≡ octets_of_all more)

pub showing_none : (file : List ℕ) (rest : Spot) (text : List ℕ) → rest ≡ record { levels = 32; place = 0; rest = file } → text ≡ [] → Showing file rest text
showing_none file rest text start none =
    let P : Spot → Type 0 = λ (p : Spot). Showing file p text in
    subst P (sym start) (record {
      levels = refl;
      short = omega arith;
      done = ([], tt, refl, none);
      left = λ values some are e. (values, some, are, e);
    })

octets-last : (values : Values) (v : Shown × List ℕ) → octets_of_all (values ++ v ∷ []) ≡ octets_of_all values ++ v.1
octets-last [] v = append-nil v.1
octets-last (w ∷ values) v = ap (λ (o : List ℕ). w.1 ++ o) (octets-last values v) ∙ sym (append_assoc w.1 (octets_of_all values) v.1)

text-last : (values : Values) (v : Shown × List ℕ) → text_of_all (values ++ v ∷ []) ≡ text_of_all values ++ line_for v.0
text-last [] v = append-nil (line_for v.0)
text-last (w ∷ values) v = ap (λ (o : List ℕ). line_for w.0 ++ o) (text-last values v) ∙ sym (append_assoc (line_for w.0) (text_of_all values) (line_for v.0))

shown-last : (values : Values) (v : Shown × List ℕ) → AreShown values → IsShown v.0 v.1 → AreShown (values ++ v ∷ [])
shown-last [] v h q = (q, tt)
shown-last (w ∷ values) v h q = (h.0, shown-last values v h.1 q)

some-last : (values : Values) (v : Shown × List ℕ) → values ++ v ∷ [] ≢ []
some-last [] v e = cc
some-last (w ∷ values) v e = cc

-- what `next_value` tells of a value that it read
pub record Next (value : Shown) (old new : Spot) : Type 0 where
  pub found : (octets : List ℕ) × IsShown value octets × (old.rest ≡ octets ++ new.rest)
  pub only : (s : Shown) (octets rest : List ℕ) → IsShown s octets → old.rest ≡ octets ++ rest → new.rest ≡ rest
  pub levels : new.levels ≡ old.levels
  pub shorter : length new.rest < length old.rest

module _ (file : List ℕ) (rest : Spot) (text : List ℕ) (s : Showing file rest text) where
  module _ (value : Shown) (new : Spot) (longer : List ℕ) (n : Next value rest new) (line : longer ≡ text ++ line_for value) where
    shown : (values : Values) × (values ≢ []) × AreShown values × (file ≡ octets_of_all values ++ new.rest) × (longer ≡ text_of_all values)
    shown =
        let v : Shown × List ℕ = (value, n.found.0) in
        let values : Values = s.done.0 in (
          values ++ v ∷ [],
          some-last values v,
          shown-last values v s.done.1 n.found.1,
          s.done.2 ∙ ap (λ (o : List ℕ). octets_of_all values ++ o) n.found.2 ∙ sym (append_assoc (octets_of_all values) n.found.0 new.rest)
              ∙ ap (λ (o : List ℕ). o ++ new.rest) (sym (octets-last values v)),
          line ∙ ap (λ (o : List ℕ). o ++ line_for value) s.done.3 ∙ sym (text-last values v),
        )

    -- the values that are left behind it
    behind : (more : Values) → more ≢ [] → AreShown more → rest.rest ≡ octets_of_all more → (ms : Values) × AreShown ms × (new.rest ≡ octets_of_all ms)
    behind [] some are e = absurd (some refl)
    behind (m ∷ ms) some are e = (ms, are.1, n.only m.0 m.1 (octets_of_all ms) are.0 e)

    not_none : (ms : Values) → new.rest ≡ octets_of_all ms → false ≡ (length new.rest == 0) → ms ≢ []
    not_none ms e more none = true≢false (sym (more ∙ ap (λ (o : List ℕ). length o == 0) e ∙ ap (λ (x : Values). length (octets_of_all x) == 0) none))

    -- there is more
    pub showing_more : false ≡ (length new.rest == 0) → Showing file new longer
    showing_more more = record {
      levels = n.levels ∙ s.levels;
      short = omega (arith, n.shorter, s.short);
      done = (shown.0, shown.2, shown.3, shown.4);
      left = λ values some are e.
          let l = s.left values some are e in
          let b = behind l.0 l.1 l.2 l.3 in
          (b.0, not_none b.0 b.2 more, b.1, b.2);
    }

    -- that was the last one
    pub shown_all : true ≡ (length new.rest == 0) → ShowOf file longer
    shown_all end =
        let none : new.rest ≡ [] = nil_from_length new.rest (eqb-true (length new.rest) 0 (sym end)) in record {
          values = shown.0;
          some = shown.1;
          shown = shown.2;
          octets = shown.3 ∙ ap (λ (o : List ℕ). octets_of_all shown.0 ++ o) none ∙ append-nil (octets_of_all shown.0);
          lines = shown.4;
        }

  -- what was refused is no value, so the file isn't shown
  pub not_shown : ((s : Shown) (octets after : List ℕ) → IsShown s octets → rest.rest ≡ octets ++ after → ⊥) → (text : List ℕ) → ShowOf file text → ⊥
  not_shown refused text h =
      let l = s.left h.values h.some h.shown h.octets in
      first l.0 l.1 l.2 l.3
    where
      first : (more : Values) → more ≢ [] → AreShown more → rest.rest ≡ octets_of_all more → ⊥
      first [] some are e = some refl
      first (m ∷ ms) some are e = refused m.0 m.1 (octets_of_all ms) are.0 e
