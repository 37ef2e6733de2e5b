use Rattle.std.proofs.Common.{refl}
use Rattle.dv_schema.proofs.Kept.{reads_back}
use Rattle.dv_cms.specs.Types.{content_info}
use Rattle.dv_cms.specs.Views.{view_content_info}
use Rattle.dv_cms.proofs.laws.written_is_read_again.Goals as goal

pub returns : goal.returns
returns c = reads_back content_info view_content_info refl (λ x. x.spelled)
