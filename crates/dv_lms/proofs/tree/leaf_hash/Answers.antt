use Rattle.std.proofs.Common.{rules}
use Rattle.dv_lms.specs.Tree.{leaf_hash}
use Rattle.dv_lms.proofs.tree.leaf_hash.Goals as goal

pub returns : goal.returns
unfolding leaf_hash
returns c = search rules
