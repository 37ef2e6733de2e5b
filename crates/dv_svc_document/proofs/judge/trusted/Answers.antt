use Rattle.std.proofs.Common.{sym}
use Rattle.dv_signed.specs.SignedView.{view_signed}
use Rattle.dv_x509.specs.View.{view_certificate}
use Rattle.dv_svc_document.proofs.ResultLemmas.{path_result}
use Rattle.dv_svc_document.proofs.judge.trusted.Goals as goal

pub returns-clause-found : goal.returns-clause-found
returns-clause-found g c =
    path_result (view_signed c.args.signed.now) c.args.bag.now c.args.trust.now c.args.when c.args.position (view_certificate c.in-Some.certificate) c.trust_failure-bit.result c.in_ok-path.path c.requires.bag (sym c.in-Some.ensures)
    c.in_ok-path.ensures.none c.in_ok-path.ensures.chosen (c.trust_failure-bit.ensures c.in_ok-path.path (sym c.is_some.ensures))
