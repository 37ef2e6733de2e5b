use Rattle.std.proofs.Common.{None, sym}
use Rattle.dv_signed.specs.SignedView.{view_signed}
use Rattle.dv_signed.specs.SignerView.{view_signer}
use Rattle.dv_svc_document.proofs.ResultLemmas.{signer_result}
use Rattle.dv_svc_document.proofs.judge.judge_signer.Goals as goal

pub returns-in-None-clause-found : goal.returns-in-None-clause-found
returns-in-None-clause-found g c =
    signer_result (view_signed c.args.signed.now) c.args.trust.now c.args.when c.args.signer c.args.bag.now (view_signer c.in-Some.signer) None c.unnamed.result c.requires.bag (sym c.in-Some.ensures.signer) c.in-None.ensures
    (c.unnamed.ensures.found c.args.trust.now c.args.when)
