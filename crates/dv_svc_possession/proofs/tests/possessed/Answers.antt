use Rattle.std.proofs.Common.{ap}
use Rattle.dv_request.specs.DataView.{view_data}
use Rattle.dv_request.specs.declared.data.Data.{Data}
use Rattle.dv_svc_possession.specs.Possession.{message_in}
use Rattle.dv_svc_possession.proofs.tests.possessed.Goals as goal

pub answer_cpd-requires-clause-message : goal.answer_cpd-requires-clause-message
answer_cpd-requires-clause-message c = ∣ (c.in-Message.field-0.now, ap (λ (d : Data). message_in (view_data d)) c.in-Message.is) ∣₁
