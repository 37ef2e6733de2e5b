use Rattle.std.proofs.Common.{◌≤◌, ◌+◌, ◌*◌, length}
use Rattle.dv_signed.specs.Certificates.{certificates_of, signers_of}
use Rattle.dv_signed.specs.SignedView.{view_signed}
use Rattle.dv_answer.proofs.SignersLemmas.{GoesOn}
use Rattle.dv_answer.proofs.signers.failure_of.Given as goal

-- the failure of the signers that are left is that of all, and so many signatures were verified for each of the others
abbrev pub invariant-loop-signer : goal.invariant-loop-signer
invariant-loop-signer g l = record {
  goes_on : GoesOn (view_signed l.signed) l.trust l.moment (signers_of (view_signed l.signed)) l.signer;
  steps : l.checks ≤ l.fn.checks + l.signer * (length (certificates_of (view_signed l.signed)) * (length (certificates_of (view_signed l.signed)) + length l.trust) + 1);
}
