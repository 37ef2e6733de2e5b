use Rattle.std.proofs.Common.{◌<◌, add-one, arith, length, ℕ}
use Rattle.dv_signed.specs.Certificates.{signers_of}
use Rattle.dv_signed.specs.SignedView.{view_signed}
use Rattle.dv_parts.proofs.Elements.{there}
use Rattle.dv_svc_document.proofs.SignersLemmas.{checks_more, checks_within, result_more}
use Rattle.dv_svc_document.proofs.signers.judge_signers.Goals as goal

pub returns-in_err-result-clause-steps : goal.returns-in_err-result-clause-steps
returns-in_err-result-clause-steps g c =
    let d = c.args.document.now in
    let document = view_signed d.signed in
    let within : c.loop-i.i < length (signers_of document) = omega (arith, d.signed.signers_counted, c.loop-i-test.true) in
    checks_within document (length c.args.trust.now) c.loop-i.i c.args.checks.now c.judge_signer.new.checks within
    (checks_more document d.bag (length c.args.trust.now) c.loop-i.i c.args.checks.now c.loop-i.checks c.judge_signer.new.checks d.bagged c.loop-i.invariant.steps c.judge_signer.ensures.steps)

pub returns-in_err-push-clause-steps : goal.returns-in_err-push-clause-steps
returns-in_err-push-clause-steps g c =
    let d = c.args.document.now in
    let document = view_signed d.signed in
    let within : c.loop-i.i < length (signers_of document) = omega (arith, d.signed.signers_counted, c.loop-i-test.true) in
    checks_within document (length c.args.trust.now) c.loop-i.i c.args.checks.now c.judge_signer.new.checks within
    (checks_more document d.bag (length c.args.trust.now) c.loop-i.i c.args.checks.now c.loop-i.checks c.judge_signer.new.checks d.bagged c.loop-i.invariant.steps c.judge_signer.ensures.steps)

pub loop-i-preserved : goal.loop-i-preserved
loop-i-preserved g c =
    let d = c.args.document.now in
    let document = view_signed d.signed in
    let within : c.loop-i.i < length (signers_of document) = omega (arith, d.signed.signers_counted, c.loop-i-test.true) in
    let s = there (signers_of document) c.loop-i.i within in
    let r = c.in_ok-result.result in
    record {
      found = rw (add-one) (result_more document c.args.trust.now c.args.when c.loop-i.i (signers_of document) c.loop-i.results.items c.push.new.self.items s.0 r c.loop-i.invariant.found s.1 (c.in_ok-result.ensures.found s.0 s.1) c.in_ok-push.ensures.items);
      steps = checks_more document d.bag (length c.args.trust.now) c.loop-i.i c.args.checks.now c.loop-i.checks c.judge_signer.new.checks d.bagged c.loop-i.invariant.steps c.judge_signer.ensures.steps;
    }
