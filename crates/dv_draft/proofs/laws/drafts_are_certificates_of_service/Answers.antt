use Rattle.dv_draft.proofs.LawLemmas.{completed, completed_fits, completed_spelled, completes}
use Rattle.dv_draft.proofs.laws.drafts_are_certificates_of_service.Goals as goal

pub returns : goal.returns
returns c = λ serial d lt f short. (completed serial d f, completed_fits serial d f lt short, completed_spelled serial d f, completes serial d f)
