use Rattle.std.proofs.Common.{◌≡◌, ℕ, ◌+◌, List, [], ◌∷◌, ◌++◌, length, take, drop, get_or, refl, sym, ap, subst, ◌∙◌, arith, inl, inr, append_assoc}
use Rattle.std.proofs.lemmas.List.{take_more, take_all}
use Rattle.dv_names.specs.Arcs.{IsGood, Begins}
use Rattle.dv_names.proofs.DottedLemmas.{IsAt, at_next, begins_at, stuck, unended, run_next, begins_at, whole_good, run, start, parted}
use Rattle.dv_names.proofs.dotted.first_wrong.Goals as goal

pub loop-place-init : goal.loop-place-init
loop-place-init c = record { arcs = ([], record { turn_is = refl; arcs = tt; digits = tt; text_is = refl }); ran = refl }

pub loop-place-preserved : goal.loop-place-preserved
loop-place-preserved c =
    let t : List ℕ = c.args.text.now in
    let i : ℕ = c.loop-place.place in
    let p = c.loop-place.point in
    let more : take (i + 1) t ≡ take i t ++ get_or t i 0 ∷ [] = take_more t i 0 c.loop-place-test.true in
    let step = sym c.in-Some.ensures in
    let at = at_next p.turn p.number c.loop-place.invariant.arcs.0 (take i t) (get_or t i 0) c.in-Some.next c.loop-place.invariant.arcs.1 step in
    let ran = run_next (take i t) (get_or t i 0) p c.in-Some.next c.loop-place.invariant.ran step in
    record {
      arcs = (at.0, subst (IsAt c.in-Some.next.turn c.in-Some.next.number at.0) (sym more) at.1);
      ran = ap (λ (l : List ℕ). run l start) more ∙ ran;
    }

pub returns-in-None : goal.returns-in-None
returns-in-None c =
    let t : List ℕ = c.args.text.now in
    let i : ℕ = c.loop-place.place in
    let p = c.loop-place.point in
    let b : ℕ = get_or t i 0 in
    let lt = c.loop-place-test.true in
    let none = sym c.in-None.ensures in
    let whole = parted t i lt in
    let more : take (i + 1) t ≡ take i t ++ b ∷ [] = take_more t i 0 lt in
    record {
      bad = λ good. stuck (take i t) (drop (i + 1) t) b p c.loop-place.invariant.ran none (subst IsGood whole good);
      before = begins_at p.turn p.number c.loop-place.invariant.arcs.0 (take i t) c.loop-place.invariant.arcs.1;
      here = inr (
        lt,
        λ begins. stuck (take i t) begins.0 b p c.loop-place.invariant.ran none
            (subst IsGood (ap (λ (l : List ℕ). l ++ begins.0) more ∙ append_assoc (take i t) (b ∷ []) begins.0) begins.1),
      );
    }

pub returns-then-is_whole : goal.returns-then-is_whole
returns-then-is_whole c =
    let t : List ℕ = c.args.text.now in
    let p = c.loop-place.point in
    let all : take c.loop-place.place t ≡ t = take_all c.loop-place.place t c.loop-place-test.false in
    whole_good p c.loop-place.invariant.arcs.0 t (subst (IsAt p.turn p.number c.loop-place.invariant.arcs.0) all c.loop-place.invariant.arcs.1) (sym c.if-is_whole.ensures)

pub returns-else-is_whole : goal.returns-else-is_whole
returns-else-is_whole c =
    let t : List ℕ = c.args.text.now in
    let p = c.loop-place.point in
    let all : take c.loop-place.place t ≡ t = take_all c.loop-place.place t c.loop-place-test.false in
    let whole : take (length t) t ≡ t = take_all (length t) t (omega arith) in
    let at = subst (IsAt p.turn p.number c.loop-place.invariant.arcs.0) all c.loop-place.invariant.arcs.1 in
    record {
      bad = unended t p (ap (λ (l : List ℕ). run l start) (sym all) ∙ c.loop-place.invariant.ran) (sym c.if-is_whole.ensures);
      before = subst Begins (sym whole) (begins_at p.turn p.number c.loop-place.invariant.arcs.0 t at);
      here = inl refl;
    }
