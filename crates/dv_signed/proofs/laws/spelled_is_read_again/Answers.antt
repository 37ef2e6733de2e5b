use Rattle.std.proofs.Common.{refl}
use Rattle.dv_schema.proofs.Kept.{reads_back}
use Rattle.dv_cms.specs.Types.{signed_data, signer_info}
use Rattle.dv_signed.specs.SignedView.{view_signed}
use Rattle.dv_signed.specs.SignerView.{view_signer}
use Rattle.dv_signed.proofs.laws.spelled_is_read_again.Goals as goal

pub returns-clause-signed : goal.returns-clause-signed
returns-clause-signed c = reads_back signed_data view_signed refl (λ x. x.spelled)

pub returns-clause-signer : goal.returns-clause-signer
returns-clause-signer c = reads_back signer_info view_signer refl (λ x. x.spelled)
