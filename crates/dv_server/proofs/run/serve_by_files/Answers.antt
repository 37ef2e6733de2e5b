use Rattle.std.proofs.Common.{ap, refl, Err}
use Rattle.dv_server.specs.Server.{ran, unread}
use Rattle.dv_server.proofs.run.serve_by_files.Goals as goal

pub returns-in-Err-clause-ends : goal.returns-in-Err-clause-ends
returns-in-Err-clause-ends g c = unread c.in-Err.status c.in-Err.ensures.status refl refl (refl, refl) (λ e. c.in-Err.ensures.none (ap Err e))

pub returns-clause-ends : goal.returns-clause-ends
returns-clause-ends g c =
    ran c.in-Ok.desk.key c.in-Ok.desk.server c.in-Ok.desk.trust c.in-Ok.ensures.desk c.serve_register-answer.result.0 c.service_status.ensures
    (λ e. (c.serve_register-answer.ensures.source e, c.serve_register-answer.ensures.clock e)) c.serve_register-answer.ensures.answer
