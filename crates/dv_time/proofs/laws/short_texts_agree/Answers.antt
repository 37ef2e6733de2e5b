use Rattle.dv_time.proofs.TimeLemmas.{short_at, one_short, short_within, one_short_second, short_text_there, short_tested}
use Rattle.dv_time.proofs.laws.short_texts_agree.Goals as goal

pub returns-clause-text : goal.returns-clause-text
returns-clause-text c = short_at

pub returns-clause-only : goal.returns-clause-only
returns-clause-only c = one_short

pub returns-clause-within : goal.returns-clause-within
returns-clause-within c = short_within

pub returns-clause-second : goal.returns-clause-second
returns-clause-second c = one_short_second

pub returns-clause-test : goal.returns-clause-test
returns-clause-test c = λ x. (short_text_there x, λ t. short_tested t.0 x t.1)
