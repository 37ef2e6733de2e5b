use Rattle.std.proofs.Common.{arith, ◌≡◌, ◌∙◌, w8, w16}
use Rattle.std.proofs.lemmas.Int.{to_z_pos}
use Rattle.jiff_core.proofs.SignedLemmas.{signed_arith}
use Rattle.dv_time.proofs.TextLemmas.{is_timed}
use Rattle.dv_time.proofs.CrateDates.{date_made}
use Rattle.dv_time.proofs.civil.second_of.Goals as goal

pub overflow_sub-days : goal.overflow_sub-days
overflow_sub-days c =
    let v = c.in-Ok.ensures.value in
    let a = c.args.civil in
    let y = v.0 ∙ to_z_pos w16 a.year (omega arith) in
    let m : c.in-Ok.date.month ≡ a.month = omega (arith, signed_arith, v.1 ∙ to_z_pos w8 a.month (omega arith)) in
    let d : c.in-Ok.date.day ≡ a.day = omega (arith, signed_arith, v.2 ∙ to_z_pos w8 a.day (omega arith)) in
    let made = date_made c.in-Ok.date a.year a.month a.day c.days_since_min.result y m d (omega arith) c.days_since_min.ensures.value in
    omega (arith, made.1)

pub returns-in-Ok : goal.returns-in-Ok
returns-in-Ok c =
    let v = c.in-Ok.ensures.value in
    let a = c.args.civil in
    let y = v.0 ∙ to_z_pos w16 a.year (omega arith) in
    let m : c.in-Ok.date.month ≡ a.month = omega (arith, signed_arith, v.1 ∙ to_z_pos w8 a.month (omega arith)) in
    let d : c.in-Ok.date.day ≡ a.day = omega (arith, signed_arith, v.2 ∙ to_z_pos w8 a.day (omega arith)) in
    let made = date_made c.in-Ok.date a.year a.month a.day c.days_since_min.result y m d (omega arith) c.days_since_min.ensures.value in
    (is_timed a (record { date = made.0; hour = omega arith; minute = omega arith; second = omega arith }), omega (arith, made.1))
