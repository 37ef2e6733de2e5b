use Rattle.std.proofs.Common.{◌≤◌, ◌+◌, ◌*◌, length, take}
use Rattle.dv_signed.specs.Certificates.{certificates_of, signers_of}
use Rattle.dv_signed.specs.SignedView.{view_signed}
use Rattle.dv_svc_document.specs.Results.{HaveResults}
use Rattle.dv_svc_document.proofs.signers.judge_signers.Given as goal

abbrev pub invariant-loop-i : goal.invariant-loop-i
invariant-loop-i g l =
    let document = view_signed l.document.signed in
    let n = length (certificates_of document) in
    record {
      found : HaveResults document l.trust l.when (take l.i (signers_of document)) l.results.items;
      steps : l.checks ≤ l.fn.checks + l.i * (n * (n + length l.trust) + 1);
    }
