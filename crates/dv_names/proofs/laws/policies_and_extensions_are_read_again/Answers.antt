use Rattle.std.proofs.Common.{refl}
use Rattle.dv_schema.proofs.Kept.{reads_back}
use Rattle.dv_schema.proofs.KeptUnder.{kept_under}
use Rattle.dv_names.specs.Types.{extension, policy_fields, policy_information}
use Rattle.dv_names.specs.Views.{view_extension, view_policy}
use Rattle.dv_names.proofs.laws.policies_and_extensions_are_read_again.Goals as goal

pub returns-clause-policy : goal.returns-clause-policy
returns-clause-policy c = λ tag low e. reads_back (policy_information tag) view_policy (rw low refl) (λ x. kept_under 48 tag policy_fields (view_policy x) refl e x.spelled)

pub returns-clause-extension : goal.returns-clause-extension
returns-clause-extension c = reads_back extension view_extension refl (λ x. x.spelled)
