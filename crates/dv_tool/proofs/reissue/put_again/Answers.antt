use Rattle.std.proofs.Common.{ap, refl, Err}
use Rattle.dv_tool.specs.Tool.{reissue_ran, reissue_unread}
use Rattle.dv_tool.proofs.reissue.put_again.Goals as goal

pub returns-in-Err-clause-ends : goal.returns-in-Err-clause-ends
returns-in-Err-clause-ends g c = reissue_unread c.in-Err.status c.in-Err.ensures.status refl refl (λ e. c.in-Err.ensures.no_seed (ap Err e))

pub returns-clause-ends : goal.returns-clause-ends
returns-clause-ends g c = reissue_ran c.in-Ok.key c.in-Ok.ensures.key c.reissue-answer.result.0 c.reissue_status.ensures c.reissue-answer.ensures.answer
