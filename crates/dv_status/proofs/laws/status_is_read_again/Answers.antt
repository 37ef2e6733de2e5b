use Rattle.std.proofs.Common.{refl}
use Rattle.dv_schema.proofs.Kept.{reads_back}
use Rattle.dv_schema.proofs.KeptUnder.{kept_under}
use Rattle.dv_status.specs.Types.{status_fields, status_info}
use Rattle.dv_status.specs.Views.{view_status}
use Rattle.dv_status.proofs.laws.status_is_read_again.Goals as goal

pub returns : goal.returns
returns c = λ tag low e. reads_back (status_info tag) view_status (rw low refl) (λ x. kept_under 48 tag status_fields (view_status x) refl e x.spelled)
