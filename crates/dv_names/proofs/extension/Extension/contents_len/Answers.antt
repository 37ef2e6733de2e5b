use Rattle.std.proofs.Common.{arith}
use Rattle.std.proofs.lemmas.Grind.{common_steps}
use Rattle.dv_schema.proofs.Kept.{kept_short}
use Rattle.dv_names.specs.Types.{extension}
use Rattle.dv_names.specs.Views.{view_extension}
use Rattle.dv_names.proofs.extension.Extension.contents_len.Goals as goal

pub overflow_add-result : goal.overflow_add-result
overflow_add-result c = let k = kept_short extension (view_extension c.args.self.now) c.args.self.now.spelled in grind (arith, common_steps)

pub overflow_add-result-2 : goal.overflow_add-result-2
overflow_add-result-2 c = let k = kept_short extension (view_extension c.args.self.now) c.args.self.now.spelled in grind (arith, common_steps)

pub overflow_add-result-3 : goal.overflow_add-result-3
overflow_add-result-3 c = let k = kept_short extension (view_extension c.args.self.now) c.args.self.now.spelled in grind (arith, common_steps)
