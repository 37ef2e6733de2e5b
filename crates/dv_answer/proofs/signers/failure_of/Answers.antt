use Rattle.std.proofs.Common.{◌<◌, ◌+◌, ◌*◌, ◌∙◌, add-one, arith, length}
use Rattle.dv_signed.specs.Certificates.{certificates_of, signers_of}
use Rattle.dv_signed.specs.SignedView.{view_signed}
use Rattle.dv_answer.proofs.SignedLemmas.{bag_size}
use Rattle.dv_answer.proofs.SignersLemmas.{bit_here, checks_all, checks_here, checks_more, goes_later, no_bit}
use Rattle.dv_answer.proofs.signers.failure_of.Goals as goal

pub loop-signer-init : goal.loop-signer-init
loop-signer-init g c = record { goes_on = λ failure is. is; steps = omega arith }

pub loop-signer-preserved : goal.loop-signer-preserved
loop-signer-preserved g c =
    let s = c.args.signatures.now in
    let v = view_signed s.signed in
    let within : c.loop-signer.signer < length (signers_of v) = omega (arith, c.loop-signer-test.true, s.signed.signers_counted) in
    record {
      goes_on =
          rw add-one
          (goes_later v c.args.trust.now c.args.moment (signers_of v) c.loop-signer.signer c.in_ok-result.result c.loop-signer.invariant.goes_on within c.in_ok-result.ensures.found c.in_default.is);
      steps =
          checks_more c.args.checks.now c.loop-signer.checks c.judge_signer.new.checks c.loop-signer.signer (length s.bag) (length (certificates_of v)) (length c.args.trust.now) (bag_size s)
          c.loop-signer.invariant.steps c.in_ok-result.ensures.steps;
    }

pub returns-in_err-result-clause-steps : goal.returns-in_err-result-clause-steps
returns-in_err-result-clause-steps g c =
    let s = c.args.signatures.now in
    let v = view_signed s.signed in
    checks_here c.args.checks.now c.loop-signer.checks c.judge_signer.new.checks c.loop-signer.signer (length s.bag) (length (certificates_of v)) (length c.args.trust.now) (length (signers_of v)) (bag_size s)
    c.loop-signer.invariant.steps c.in_err-result.ensures.steps (omega (arith, c.loop-signer-test.true, s.signed.signers_counted))

pub returns-in-Some-clause-failure : goal.returns-in-Some-clause-failure
returns-in-Some-clause-failure g c =
    let s = c.args.signatures.now in
    let v = view_signed s.signed in
    let within : c.loop-signer.signer < length (signers_of v) = omega (arith, c.loop-signer-test.true, s.signed.signers_counted) in
    bit_here v c.args.trust.now c.args.moment (signers_of v) c.loop-signer.signer c.in_ok-result.result c.in-Some.bit c.loop-signer.invariant.goes_on within c.in_ok-result.ensures.found c.in-Some.is

pub returns-in-Some-clause-steps : goal.returns-in-Some-clause-steps
returns-in-Some-clause-steps g c =
    let s = c.args.signatures.now in
    let v = view_signed s.signed in
    checks_here c.args.checks.now c.loop-signer.checks c.judge_signer.new.checks c.loop-signer.signer (length s.bag) (length (certificates_of v)) (length c.args.trust.now) (length (signers_of v)) (bag_size s)
    c.loop-signer.invariant.steps c.in_ok-result.ensures.steps (omega (arith, c.loop-signer-test.true, s.signed.signers_counted))

pub returns-clause-failure : goal.returns-clause-failure
returns-clause-failure g c =
    let s = c.args.signatures.now in
    let v = view_signed s.signed in
    no_bit v c.args.trust.now c.args.moment (signers_of v) c.loop-signer.signer c.loop-signer.invariant.goes_on (omega (arith, c.loop-signer-test.false, s.signed.signers_counted))
    (λ none. c.if-signed-eq0.false (s.signed.signers_counted ∙ none))

pub returns-clause-steps : goal.returns-clause-steps
returns-clause-steps g c =
    let s = c.args.signatures.now in
    let v = view_signed s.signed in
    let n = length (certificates_of v) in
    checks_all c.args.checks.now c.loop-signer.checks c.loop-signer.signer (length (signers_of v)) (n * (n + length c.args.trust.now) + 1) c.loop-signer.invariant.steps
    (omega (arith, c.loop-signer.auto.signer-end, s.signed.signers_counted))
