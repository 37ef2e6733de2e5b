use Rattle.std.proofs.Common.{ap}
use Rattle.std.specs.Option.{option_copied}
use Rattle.dv_names.specs.Views.{view_digest}
use Rattle.dv_request.specs.DataView.{view_data}
use Rattle.dv_request.specs.RequestView.{view_request}
use Rattle.dv_svc_pkc.specs.Certificates.{certs_in}
use Rattle.dv_svc_possession.specs.Possession.{claim_failure, claim_in}
use Rattle.dv_answer.proofs.RequestLemmas.{claim_answered}
use Rattle.dv_answer.proofs.request.drafted.Goals as goal

pub message_draft-requires-clause-message : goal.message_draft-requires-clause-message
message_draft-requires-clause-message g c = ∣ (c.in-Message.field-0.now, ap view_data c.in-Message.is) ∣₁

pub answer_ccpd-requires-clause-claim : goal.answer_ccpd-requires-clause-claim
answer_ccpd-requires-clause-claim g c = ∣ (view_digest c.in-Imprint.field-0, ap claim_in (ap view_data c.in-Imprint.is)) ∣₁

pub answer_cpkc-requires-clause-certs : goal.answer_cpkc-requires-clause-certs
answer_cpkc-requires-clause-certs g c = ∣ (c.in-Certs.raw.now, ap certs_in (ap view_data c.in-Certs.is)) ∣₁

pub returns-in_ok-answer-in-Imprint-clause-answer : goal.returns-in_ok-answer-in-Imprint-clause-answer
returns-in_ok-answer-in-Imprint-clause-answer g c =
    let same = ap view_data c.in-Imprint.is in
    let claim = view_digest c.in-Imprint.field-0 in
    claim_answered c.args.trust.now c.args.moment c.args.server.now.policy (option_copied c.args.signers) (view_request c.args.request.now) c.args.is_valid claim c.if_valid.result same
    (c.if_valid.ensures.one (claim_failure claim) _ (c.in_ok-answer-in-Imprint.ensures claim (ap claim_in same)))
