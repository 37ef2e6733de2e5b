use Rattle.std.proofs.Common.{refl}
use Rattle.dv_time.specs.Text.{second_of, text_of, civil_of, civil_in}
use Rattle.dv_time.proofs.TextLemmas.{is_timed, second_again, one_text, one_second, text_within, text_there, text_tested}
use Rattle.dv_time.proofs.laws.moments_and_texts_agree.Goals as goal

pub returns-clause-text : goal.returns-clause-text
unfolding text_of
returns-clause-text c = λ s le. (let h = second_again s le in (civil_of s, is_timed (civil_of s) h.0, h.1, refl))

pub returns-clause-only : goal.returns-clause-only
returns-clause-only c = one_text

pub returns-clause-within : goal.returns-clause-within
returns-clause-within c = text_within

pub returns-clause-second : goal.returns-clause-second
returns-clause-second c = one_second

pub returns-clause-test : goal.returns-clause-test
returns-clause-test c = λ x. (λ e. (second_of (civil_in x), text_there x e), λ t. text_tested t.0 x t.1)
