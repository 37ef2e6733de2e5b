use Rattle.std.proofs.Common.{arith}
use Rattle.std.proofs.lemmas.Grind.{common_steps}
use Rattle.dv_schema.proofs.Kept.{kept_short}
use Rattle.dv_names.specs.Types.{digest_info}
use Rattle.dv_names.specs.Views.{view_digest}
use Rattle.dv_names.proofs.algorithm.DigestInfo.contents_len.Goals as goal

pub overflow_add-result : goal.overflow_add-result
overflow_add-result c = let k = kept_short digest_info (view_digest c.args.self.now) c.args.self.now.spelled in grind (arith, common_steps)

pub overflow_add-result-2 : goal.overflow_add-result-2
overflow_add-result-2 c = let k = kept_short digest_info (view_digest c.args.self.now) c.args.self.now.spelled in grind (arith, common_steps)
