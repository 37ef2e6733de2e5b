use Rattle.std.proofs.Common.{rules}
use Rattle.dv_lms.specs.Tree.{pair_hash}
use Rattle.dv_lms.proofs.tree.pair_hash.Goals as goal

pub returns : goal.returns
unfolding pair_hash
returns c = search rules
