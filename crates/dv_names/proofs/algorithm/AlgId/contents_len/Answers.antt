use Rattle.std.proofs.Common.{arith}
use Rattle.std.proofs.lemmas.Grind.{common_steps}
use Rattle.dv_schema.proofs.Kept.{kept_short}
use Rattle.dv_names.specs.Types.{algorithm_identifier}
use Rattle.dv_names.specs.Views.{view_algorithm}
use Rattle.dv_names.proofs.algorithm.AlgId.contents_len.Goals as goal

pub overflow_add-result : goal.overflow_add-result
overflow_add-result c = let k = kept_short algorithm_identifier (view_algorithm c.args.self.now) c.args.self.now.spelled in grind (arith, common_steps)
