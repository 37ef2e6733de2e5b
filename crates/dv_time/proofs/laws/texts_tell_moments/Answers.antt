use Rattle.dv_time.proofs.TimeLemmas.{same_text, same_time}
use Rattle.dv_time.proofs.laws.texts_tell_moments.Goals as goal

pub returns-clause-generalized : goal.returns-clause-generalized
returns-clause-generalized c = same_text

pub returns-clause-time : goal.returns-clause-time
returns-clause-time c = same_time
