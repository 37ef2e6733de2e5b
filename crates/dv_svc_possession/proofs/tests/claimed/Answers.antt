use Rattle.std.proofs.Common.{ap}
use Rattle.dv_names.specs.Views.{view_digest}
use Rattle.dv_request.specs.DataView.{view_data}
use Rattle.dv_request.specs.declared.data.Data.{Data}
use Rattle.dv_svc_possession.specs.Possession.{claim_in}
use Rattle.dv_svc_possession.proofs.tests.claimed.Goals as goal

pub answer_ccpd-requires-clause-claim : goal.answer_ccpd-requires-clause-claim
answer_ccpd-requires-clause-claim c = ∣ (view_digest c.in-Imprint.field-0, ap (λ (d : Data). claim_in (view_data d)) c.in-Imprint.is) ∣₁
