use Rattle.std.proofs.Common.{◌≡◌, ◌/◌, arith, refl, ap, ◌∙◌, w16, ℤ, pos, to_z, of_z}
use Rattle.jiff_core.proofs.SignedLemmas.{back_small}
use Rattle.dv_time.proofs.CrateDates.{date_after}
use Rattle.dv_time.proofs.civil.civil_at.Goals as goal

pub overflow_cast-result : goal.overflow_cast-result
overflow_cast-result c =
    let h = date_after c.from_days_since_min-date.result (c.args.second / 86400) c.from_days_since_min-date.ensures in
    let e : to_z w16 (of_z w16 c.from_days_since_min-date.result.year) ≡ pos h.0 = ap (λ (z : ℤ). to_z w16 (of_z w16 z)) h.1 ∙ back_small w16 (pos h.0) (omega (arith, h.2)) in
    rw e (tt, omega (arith, h.2))

pub returns : goal.returns
returns c =
    let h = date_after c.from_days_since_min-date.result (c.args.second / 86400) c.from_days_since_min-date.ensures in
    let e : to_z w16 (of_z w16 c.from_days_since_min-date.result.year) ≡ pos h.0 = ap (λ (z : ℤ). to_z w16 (of_z w16 z)) h.1 ∙ back_small w16 (pos h.0) (omega (arith, h.2)) in
    rw (e, h.3) refl
