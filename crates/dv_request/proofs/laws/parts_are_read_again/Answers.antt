use Rattle.std.proofs.Common.{refl}
use Rattle.dv_schema.proofs.Kept.{reads_back}
use Rattle.dv_request.specs.InfoView.{view_info}
use Rattle.dv_request.specs.PartViews.{view_path}
use Rattle.dv_request.specs.TargetView.{view_target}
use Rattle.dv_request.specs.Types.{path_input, request_information, target_chain}
use Rattle.dv_request.proofs.laws.parts_are_read_again.Goals as goal

pub returns-clause-information : goal.returns-clause-information
returns-clause-information c = reads_back request_information view_info refl (λ x. x.spelled)

pub returns-clause-target : goal.returns-clause-target
returns-clause-target c = reads_back target_chain view_target refl (λ x. x.spelled)

pub returns-clause-path : goal.returns-clause-path
returns-clause-path c = reads_back (path_input 160) view_path refl (λ x. x.spelled)
