use Rattle.std.proofs.Common.{◌==◌, ap}
use Rattle.std.proofs.Math.Logic.{∥∥₁_map}
use Rattle.dv_request.specs.DataView.{view_data}
use Rattle.dv_request.specs.Information.{number_of}
use Rattle.dv_request.specs.RequestView.{view_request}
use Rattle.dv_svc_possession.specs.Possession.{message_in}
use Rattle.dv_answer.specs.Steps.{is_vsd}
use Rattle.dv_answer.proofs.RequestLemmas.{document_checks}
use Rattle.dv_answer.proofs.request.message_draft.Goals as goal

pub answer_cpd-requires-clause-message : goal.answer_cpd-requires-clause-message
answer_cpd-requires-clause-message g c = ∥∥₁_map c.requires.message (λ m. (m.0, ap message_in m.1))

pub returns-in-Vsd-clause-steps : goal.returns-in-Vsd-clause-steps
returns-in-Vsd-clause-steps g c = λ limit is.
    document_checks (view_data c.args.request.now.matter) (is_vsd (view_request c.args.request.now)) _ limit _ _ c.requires.message (ap (λ s. number_of s == 2) c.in-Vsd.is) c.answer_vsd.ensures.steps is
