use Rattle.std.proofs.Common.{◌∙◌, ap, Some}
use Rattle.dv_signed.specs.SignedView.{view_signed}
use Rattle.dv_signed.specs.SignerView.{view_signer}
use Rattle.dv_svc_document.specs.Results.{failed}
use Rattle.dv_svc_document.proofs.ResultLemmas.{faulty_result, good_result}
use Rattle.dv_svc_document.proofs.judge.judged.Goals as goal

pub returns-in-Err-clause-found : goal.returns-in-Err-clause-found
returns-in-Err-clause-found g c =
    faulty_result (view_signer c.args.signer.now) (view_signed c.args.signed.now) c.args.trust.now c.args.when c.args.position c.in-Err.fault c.failed.result c.in-Err.ensures.fault
    (c.failed.ensures ∙ ap (λ bit. failed bit (Some c.args.position)) c.fault_bit.ensures)
