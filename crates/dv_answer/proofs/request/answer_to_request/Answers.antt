use Rattle.dv_request.specs.RequestView.{view_request}
use Rattle.std.specs.Option.{option_copied}
use Rattle.dv_answer.specs.Offices.{view_office}
use Rattle.dv_answer.specs.Signed.{document_in}
use Rattle.dv_answer.proofs.RequestLemmas.{step_refuses}
use Rattle.dv_answer.proofs.request.answer_to_request.Goals as goal

pub returns-in-Some-clause-answer : goal.returns-in-Some-clause-answer
returns-in-Some-clause-answer g c =
    step_refuses c.args.server.now c.args.trust.now c.args.moment (document_in (option_copied c.args.signatures)) (view_request c.args.request.now) (view_office c.of-office.result) c.of-office.ensures c.in-Some.bit c.in-Some.ensures
