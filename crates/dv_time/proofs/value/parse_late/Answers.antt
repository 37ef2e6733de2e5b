use Rattle.std.proofs.Common.{◌<◌, ◌≤◌, ℕ, subst}
use Rattle.dv_time.specs.Text.{first_late}
use Rattle.dv_time.proofs.TimeLemmas.{late_none, late_not, late_there}
use Rattle.dv_time.proofs.value.parse_late.Goals as goal

pub returns-in-None : goal.returns-in-None
returns-in-None c = late_none c.args.text.now c.in-None.ensures.test

pub returns-then-seconds-lt-FIRST_LATE : goal.returns-then-seconds-lt-FIRST_LATE
returns-then-seconds-lt-FIRST_LATE c =
    late_not c.in-Some.moment c.args.text.now c.in-Some.ensures.says (subst (λ (n : ℕ). n < first_late) c.seconds.ensures.value c.if-seconds-lt-FIRST_LATE.true)

pub returns-else-seconds-lt-FIRST_LATE : goal.returns-else-seconds-lt-FIRST_LATE
returns-else-seconds-lt-FIRST_LATE c =
    let late : first_late ≤ c.in-Some.moment = subst (λ (n : ℕ). first_late ≤ n) c.seconds.ensures.value c.if-seconds-lt-FIRST_LATE.false in
    (late_there c.in-Some.moment c.args.text.now c.in-Some.ensures.says late, c.in-Some.ensures.test.1, late)
