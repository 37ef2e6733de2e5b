use Rattle.std.proofs.Common.{ap, refl, Err}
use Rattle.dv_tool.specs.Tool.{init_ran, init_unread}
use Rattle.dv_tool.proofs.init.make_register.Goals as goal

pub returns-in-Err-clause-ends : goal.returns-in-Err-clause-ends
returns-in-Err-clause-ends g c = init_unread c.in-Err.status c.in-Err.ensures.status refl refl (λ e. c.in-Err.ensures.no_seed (ap Err e))

pub returns-clause-ends : goal.returns-clause-ends
returns-clause-ends g c =
    init_ran c.in-Ok.key c.in-Ok.ensures.key _ c.as_bytes.ensures.value refl refl c.init-answer.result.0 c.init_status.ensures c.init-answer.ensures.answer
