use Rattle.dv_signed.specs.SignedView.{view_signed}
use Rattle.dv_answer.proofs.SignedLemmas.{are_signers}
use Rattle.dv_answer.proofs.signed.Signatures.signers.Goals as goal

pub returns-clause-signers : goal.returns-clause-signers
returns-clause-signers c = are_signers (view_signed c.args.self.now.signed) c.args.self.now.signed.spelled c.args.self.now.signed.short
