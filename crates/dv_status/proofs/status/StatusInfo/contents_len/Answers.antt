use Rattle.std.proofs.Common.{arith}
use Rattle.std.proofs.lemmas.Grind.{common_steps}
use Rattle.dv_schema.proofs.Kept.{kept_short}
use Rattle.dv_status.specs.Types.{status_info}
use Rattle.dv_status.specs.Views.{view_status}
use Rattle.dv_status.proofs.status.StatusInfo.contents_len.Goals as goal

pub overflow_add-text : goal.overflow_add-text
overflow_add-text c = let k = kept_short (status_info 48) (view_status c.args.self.now) c.args.self.now.spelled in grind (arith, common_steps)

pub overflow_add-result-2 : goal.overflow_add-result-2
overflow_add-result-2 c = let k = kept_short (status_info 48) (view_status c.args.self.now) c.args.self.now.spelled in grind (arith, common_steps)

pub overflow_add-result-3 : goal.overflow_add-result-3
overflow_add-result-3 c = let k = kept_short (status_info 48) (view_status c.args.self.now) c.args.self.now.spelled in grind (arith, common_steps)
