use Rattle.dv_session.proofs.FrontLemmas.{same_answer}
use Rattle.dv_session.proofs.front.one_answer.Goals as goal

pub returns : goal.returns
returns c = same_answer
