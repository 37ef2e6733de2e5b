use Rattle.std.proofs.Common.{rules, arith, inl, inr, ap, length, List, ℕ, Bor, ◌-◌, drop, length-drop}
use Rattle.std.proofs.lemmas.List.{length-take}
use Rattle.dv_asn1.proofs.Bounds.{too_long}
use Rattle.dv_asn1.proofs.number.number_within.Goals as goal
use Rattle.dv_asn1.proofs.number.number_within.Goals.{then-contents-eq0, else-contents-eq0}

pub returns-then-digits-gt8 : goal.returns-then-digits-gt8
returns-then-digits-gt8 c =
    elim c.if-contents-eq0.branch [
      | then-contents-eq0 w ↦ too_long c.args.contents.now c.args.max c.ranges.max.fits (search rules)
          (inl (w.if-contents-eq0.true, omega (arith, ap (λ (b : Bor (List ℕ)). length b.now) w.digits-is, length-take (length c.args.contents.now - 1) (drop 1 c.args.contents.now), length-drop 1 c.args.contents.now)))
      | else-contents-eq0 w ↦ too_long c.args.contents.now c.args.max c.ranges.max.fits (search rules)
          (inr (w.if-contents-eq0.false, omega (arith, ap (λ (b : Bor (List ℕ)). length b.now) w.digits-is)))
    ]
