use Rattle.std.proofs.Common.{◌∙◌, Option, None, ap}
use Rattle.dv_signed.specs.Check.{fault_in}
use Rattle.dv_signed.specs.SignedView.{view_signed}
use Rattle.dv_signed.specs.SignerView.{view_signer}
use Rattle.dv_svc_document.specs.Results.{failed}
use Rattle.dv_svc_document.proofs.ResultLemmas.{content_there, unnamed_result}
use Rattle.dv_svc_document.proofs.judge.unnamed.Goals as goal

pub returns-clause-found : goal.returns-clause-found
returns-clause-found g c = λ anchors when.
    (let there = content_there c.args.signed.now.content c.requires in
    unnamed_result (view_signer c.args.signer.now) (view_signed c.args.signed.now) anchors when _ (fault_in c.signer_check-check.result) c.failed.result (c.signer_check-check.ensures.fault there.0 there.1)
    (c.failed.ensures ∙ ap (λ bit. failed bit None) c.unnamed_bit.ensures))
