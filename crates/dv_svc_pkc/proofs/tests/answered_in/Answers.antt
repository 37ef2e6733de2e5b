use Rattle.std.proofs.Common.{ap}
use Rattle.dv_request.specs.DataView.{view_data}
use Rattle.dv_request.specs.declared.data.Data.{Data}
use Rattle.dv_svc_pkc.specs.Certificates.{certs_in}
use Rattle.dv_svc_pkc.proofs.tests.answered_in.Goals as goal

pub answer_cpkc-requires-clause-certs : goal.answer_cpkc-requires-clause-certs
answer_cpkc-requires-clause-certs g c = ∣ (c.in-Certs.raw.now, ap (λ (d : Data). certs_in (view_data d)) c.in-Certs.is) ∣₁
