use Rattle.std.proofs.Common.{◌≡◌, ◌&&◌, length, eqb, true, false, Bool, sym, ap, ◌∙◌, refl, arith}
use Rattle.std.proofs.lemmas.Result.{err_from_is_err_and}
use Rattle.dv_schema.specs.Reading.{Spot}
use Rattle.dv_schema.specs.Answers.{counted}
use Rattle.dv_schema.proofs.Counts.{count_one, count_err, count_end, members, members_none}
use Rattle.dv_asn1.proofs.members.count_members.Goals as goal
use Rattle.dv_asn1.proofs.members.count_members.Goals.{else-some-via-then-some+else-at_end, else-some-via-else-some}

pub returns-then-at_end : goal.returns-then-at_end
returns-then-at_end g c =
    let none : eqb (length c.args.contents.now.rest) 0 ≡ true = ap (λ (p : Spot). eqb (length p.rest) 0) (sym c.fork-next.ensures.same) ∙ sym c.at_end.ensures ∙ c.if-at_end.true in
    rw c.new.ensures (ap (counted 0) (members_none g.T.Member.schema c.args.some c.args.place c.args.contents.now c.if-some.true none))

-- a list that needs no member
and_false : (a b : Bool) → a ≡ false → (a && b) ≡ false
and_false a b e = rw e refl

-- and one that has one
and_false_right : (a b : Bool) → b ≡ false → (a && b) ≡ false
and_false_right true b e = e
and_false_right false b e = refl

pub returns-in_err-pass : goal.returns-in_err-pass
returns-in_err-pass g c =
    let p = err_from_is_err_and c.from_residual.result c.from_residual.ensures.1 in
    let at : Spot = c.loop-next.next in
    let some : eqb (length at.rest) 0 ≡ false = sym c.at_end-in-loop-next.ensures ∙ c.loop-next-test.true in
    let s = g.T.Member.schema in
    let there : (c.args.some && eqb (length c.args.contents.now.rest) 0) ≡ false =
    elim c.else-some.branch [
      | else-some-via-then-some+else-at_end w ↦ and_false_right c.args.some _ (ap (λ (q : Spot). eqb (length q.rest) 0) (sym c.fork-next.ensures.same) ∙ sym w.at_end.ensures ∙ w.if-at_end.false)
      | else-some-via-else-some w ↦ and_false c.args.some _ w.if-some.false
    ] in
    rw (p.1, p.2) (ap (counted 0) (members s c.args.some c.args.place c.args.contents.now there) ∙ sym c.loop-next.invariant.0 ∙ count_err s c.loop-next.count at c.in_err-pass.field-0.0 some c.in_err-pass.ensures.0)

pub loop-next-smaller : goal.loop-next-smaller
loop-next-smaller g c =
    let at : Spot = c.loop-next.next in
    let some : eqb (length at.rest) 0 ≡ false = sym c.at_end-in-loop-next.ensures ∙ c.loop-next-test.true in
    (count_one g.T.Member.schema c.loop-next.count at c.pass.new.c some c.in_ok-pass.ensures).1

pub loop-next-preserved : goal.loop-next-preserved
loop-next-preserved g c =
    let at : Spot = c.loop-next.next in
    let some : eqb (length at.rest) 0 ≡ false = sym c.at_end-in-loop-next.ensures ∙ c.loop-next-test.true in
    let one = count_one g.T.Member.schema c.loop-next.count at c.pass.new.c some c.in_ok-pass.ensures in
    (sym one.0 ∙ c.loop-next.invariant.0, omega (arith, one.1, c.loop-next.invariant.1))

pub returns : goal.returns
returns g c =
    let at : Spot = c.loop-next.next in
    let none : eqb (length at.rest) 0 ≡ true = sym c.at_end-in-loop-next.ensures ∙ c.loop-next-test.false in
    let there : (c.args.some && eqb (length c.args.contents.now.rest) 0) ≡ false =
    elim c.else-some.branch [
      | else-some-via-then-some+else-at_end w ↦ and_false_right c.args.some _ (ap (λ (q : Spot). eqb (length q.rest) 0) (sym c.fork-next.ensures.same) ∙ sym w.at_end.ensures ∙ w.if-at_end.false)
      | else-some-via-else-some w ↦ and_false c.args.some _ w.if-some.false
    ] in
    ap (counted 0) (members g.T.Member.schema c.args.some c.args.place c.args.contents.now there) ∙ sym c.loop-next.invariant.0 ∙ count_end g.T.Member.schema c.loop-next.count at none
