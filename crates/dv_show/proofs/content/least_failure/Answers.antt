use Rattle.std.proofs.Common.{ℕ, sym, subst, arith}
use Rattle.std.specs.Prelude.{Option, Some, None, option_map}
use Rattle.dv_status.specs.Fail.{fail_octets}
use Rattle.dv_show.specs.Values.{IsLeast}
use Rattle.dv_show.proofs.FailLemmas.{none_below_next, set_bit}
use Rattle.dv_show.proofs.content.least_failure.Goals as goal

pub returns-then-has : goal.returns-then-has
returns-then-has c =
    subst (λ (o : Option ℕ). IsLeast (option_map fail_octets o) (Some c.loop-bit.bit)) (sym (c.in_ok-fail.was {u = tt}))
    (set_bit c.in_ok-fail.fail c.loop-bit.bit (c.has.ensures.0 c.if-has.true), c.loop-bit.invariant)

pub loop-bit-preserved : goal.loop-bit-preserved
loop-bit-preserved c = none_below_next c.in_ok-fail.fail c.loop-bit.bit c.has.result c.loop-bit.invariant c.has.ensures.1 c.if-has.false

pub returns : goal.returns
returns c =
    subst (λ (o : Option ℕ). IsLeast (option_map fail_octets o) None) (sym (c.in_ok-fail.was {u = tt}))
    (λ bit set. c.loop-bit.invariant bit (omega (arith, set.0, c.loop-bit-test.false)) set)
