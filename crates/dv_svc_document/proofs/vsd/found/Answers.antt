use Rattle.std.proofs.Common.{Some, List, arith, length, subst, sym}
use Rattle.std.specs.Prelude.{All}
use Rattle.dv_signed.specs.Certificates.{certificates_of, signers_of}
use Rattle.dv_signed.specs.SignedView.{view_signed}
use Rattle.dv_svc_document.specs.declared.result.SignerResult.{SignerResult}
use Rattle.dv_svc_document.specs.Kept.{IsFit}
use Rattle.dv_svc_document.proofs.FoundLemmas.{checks_read, results_fit}
use Rattle.dv_svc_document.proofs.vsd.found.Goals as goal

pub returns-in_err-results-in-Some-clause-steps : goal.returns-in_err-results-in-Some-clause-steps
returns-in_err-results-in-Some-clause-steps g c =
    let read = rw c.in-Some.is at c.in_ok-read.ensures in
    checks_read c.args.message.now (view_signed c.in-Some.document.signed) (length c.args.trust.now) c.args.checks.now c.judge_signers.new.checks read c.judge_signers.ensures.steps

pub listed-requires-clause-fit : goal.listed-requires-clause-fit
listed-requires-clause-fit g c =
    let document = view_signed c.in-Some.document.signed in
    subst (λ (l : List SignerResult). All (IsFit (length (certificates_of document))) l) (sym c.deref.ensures.value)
    (results_fit document c.args.trust.now c.args.when (signers_of document) c.in_ok-results-in-Some.results.items c.in_ok-results-in-Some.ensures.found)

pub returns-in_err-certs-in-Some-clause-steps : goal.returns-in_err-certs-in-Some-clause-steps
returns-in_err-certs-in-Some-clause-steps g c =
    let read = rw c.in-Some.is at c.in_ok-read.ensures in
    checks_read c.args.message.now (view_signed c.in-Some.document.signed) (length c.args.trust.now) c.args.checks.now c.judge_signers.new.checks read c.judge_signers.ensures.steps

pub status_of-requires : goal.status_of-requires
status_of-requires g c =
    let document = view_signed c.in-Some.document.signed in
    let fit = results_fit document c.args.trust.now c.args.when (signers_of document) c.in_ok-results-in-Some.results.items c.in_ok-results-in-Some.ensures.found in
    let all = subst (λ (l : List SignerResult). All (IsFit (length (certificates_of document))) l) (sym c.deref-in-Some.ensures.value) fit in
    λ k d lt. (all k d lt).bit

pub returns-in_ok-certs-in-Some-clause-steps : goal.returns-in_ok-certs-in-Some-clause-steps
returns-in_ok-certs-in-Some-clause-steps g c =
    let read = rw c.in-Some.is at c.in_ok-read.ensures in
    checks_read c.args.message.now (view_signed c.in-Some.document.signed) (length c.args.trust.now) c.args.checks.now c.judge_signers.new.checks read c.judge_signers.ensures.steps
