use Rattle.std.proofs.Common.{◌≡◌, ◌∙◌, Option, Some, sym, ap, subst}
use Rattle.dv_schema.specs.Schema.{ValueOf}
use Rattle.dv_names.specs.Types.{digest_info}
use Rattle.dv_names.specs.Views.{view_digest}
use Rattle.std.specs.Option.{option_copied}
use Rattle.dv_request.specs.declared.data.Data.{Data}
use Rattle.dv_request.specs.DataView.{view_data}
use Rattle.dv_request.specs.RequestView.{view_request}
use Rattle.dv_parts.specs.Answered.{IsAnswer}
use Rattle.dv_svc_possession.specs.Possession.{ccpd_of, claim_failure, claim_in}
use Rattle.dv_svc_possession.proofs.ClaimLemmas.{if_ok}
use Rattle.dv_svc_possession.proofs.possession.answer_ccpd.Goals as goal

pub returns-in-Imprint : goal.returns-in-Imprint
returns-in-Imprint c =
    if_ok c.answer_claim.result
    (λ a h claim e.
    (let same : ◌≡◌ {A = Option (ValueOf digest_info)} (Some (view_digest c.in-Imprint.claim)) (Some claim) = sym (ap (λ (d : Data). claim_in (view_data d)) c.in-Imprint.is) ∙ e in
    let is : ◌≡◌ {A = ValueOf digest_info} (view_digest c.in-Imprint.claim) claim = cc in
    subst (λ (x : ValueOf digest_info). IsAnswer a (claim_failure x) (λ d. d ≡ ccpd_of (view_request c.args.request.now) x c.args.moment c.args.server.now.policy (option_copied c.args.signers))) is h))
    c.answer_claim.ensures
