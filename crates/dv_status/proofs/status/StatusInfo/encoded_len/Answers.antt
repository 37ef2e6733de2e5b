use Rattle.std.proofs.Common.{arith}
use Rattle.std.proofs.lemmas.Grind.{common_steps}
use Rattle.dv_schema.proofs.Kept.{kept_short}
use Rattle.dv_status.specs.Types.{status_info}
use Rattle.dv_status.specs.Views.{view_status}
use Rattle.dv_status.proofs.status.StatusInfo.encoded_len.Goals as goal

pub overflow_add-result : goal.overflow_add-result
overflow_add-result c = let k = kept_short (status_info 48) (view_status c.args.self.now) c.args.self.now.spelled in grind (arith, common_steps)
