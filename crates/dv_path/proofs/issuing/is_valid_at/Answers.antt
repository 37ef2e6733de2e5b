use Rattle.std.proofs.Common.{◌≤◌, arith}
use Rattle.std.proofs.lemmas.Bool.{le-leb, leb-true}
use Rattle.dv_time.specs.Text.{last_second}
use Rattle.dv_path.proofs.Issued.{begins, ends, within}
use Rattle.dv_path.proofs.issuing.is_valid_at.Goals as goal

pub returns-then-from-seconds : goal.returns-then-from-seconds
returns-then-from-seconds c =
    let low : c.args.certificate.now.not_before ≤ last_second = omega (arith, c.seconds-from.ensures.value, c.seconds-from.ensures.within) in
    let high : c.args.certificate.now.not_after ≤ last_second = omega (arith, c.seconds-until.ensures.value, c.seconds-until.ensures.within) in
    let begun : c.args.certificate.now.not_before ≤ c.args.when = omega (arith, c.seconds-from.ensures.value, c.seconds.ensures.value, c.if-from-seconds.true) in (
      λ lasts. within c.args.certificate.now.not_before c.args.certificate.now.not_after c.args.when low high begun (omega (arith, leb-true _ _ lasts, c.seconds-then-from-seconds.ensures.value, c.seconds-until.ensures.value)),
      λ h. le-leb _ _ (omega (arith, ends c.texts_tell_moments.ensures.time c.args.certificate.now.not_before c.args.certificate.now.not_after c.args.when low high h, c.seconds-then-from-seconds.ensures.value, c.seconds-until.ensures.value)),
    )

pub returns-else-from-seconds : goal.returns-else-from-seconds
returns-else-from-seconds c =
    let low : c.args.certificate.now.not_before ≤ last_second = omega (arith, c.seconds-from.ensures.value, c.seconds-from.ensures.within) in
    let high : c.args.certificate.now.not_after ≤ last_second = omega (arith, c.seconds-until.ensures.value, c.seconds-until.ensures.within) in (
      λ begun. absurd (omega (arith, leb-true _ _ begun, c.if-from-seconds.false)),
      λ h. absurd (omega (arith, begins c.texts_tell_moments.ensures.time c.args.certificate.now.not_before c.args.certificate.now.not_after c.args.when low high h, c.seconds-from.ensures.value, c.seconds.ensures.value, c.if-from-seconds.false)),
    )
