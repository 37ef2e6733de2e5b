use Rattle.std.proofs.Common.{◌<◌, ◌≤◌, ℕ, length, ap, subst, arith}
use Rattle.dv_time.specs.Text.{first_late}
use Rattle.dv_time.proofs.TimeLemmas.{early_spelled, late_spelled, text_long, short_long}
use Rattle.dv_time.proofs.value.time_len.Goals as goal

pub returns-then-seconds-lt-FIRST_LATE : goal.returns-then-seconds-lt-FIRST_LATE
returns-then-seconds-lt-FIRST_LATE c =
    let e = ap length (early_spelled c.args.m (subst (λ (n : ℕ). n < first_late) c.seconds.ensures.value c.if-seconds-lt-FIRST_LATE.true)) in
    omega (arith, e, short_long c.args.m)

pub returns-else-seconds-lt-FIRST_LATE : goal.returns-else-seconds-lt-FIRST_LATE
returns-else-seconds-lt-FIRST_LATE c =
    let e = ap length (late_spelled c.args.m (subst (λ (n : ℕ). first_late ≤ n) c.seconds.ensures.value c.if-seconds-lt-FIRST_LATE.false)) in
    omega (arith, e, text_long c.args.m)
