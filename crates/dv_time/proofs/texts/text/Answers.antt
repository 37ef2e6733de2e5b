use Rattle.std.proofs.Common.{arith, ◌∙◌, refl, sym, ap, subst}
use Rattle.dv_time.specs.Text.{second_of, civil_text, civil_of, text_of}
use Rattle.dv_time.proofs.TextLemmas.{IsTimed, is_timed, second_again}
use Rattle.dv_time.proofs.texts.text.Goals as goal

pub overflow_cast-century : goal.overflow_cast-century
overflow_cast-century c =
    let h = second_again c.seconds.result c.seconds.ensures.within in
    let timed : IsTimed c.civil_at-civil.result = subst IsTimed (sym c.civil_at-civil.ensures) h.0 in
    omega (arith, timed.date.last_year)

pub returns-clause-value : goal.returns-clause-value
unfolding text_of
returns-clause-value c = ap civil_text (c.civil_at-civil.ensures ∙ ap civil_of c.seconds.ensures.value)

pub returns-clause-says : goal.returns-clause-says
returns-clause-says c =
    let h = second_again c.seconds.result c.seconds.ensures.within in
    let timed : IsTimed c.civil_at-civil.result = subst IsTimed (sym c.civil_at-civil.ensures) h.0 in
    (c.civil_at-civil.result, is_timed c.civil_at-civil.result timed, ap second_of c.civil_at-civil.ensures ∙ h.1 ∙ c.seconds.ensures.value, refl)
