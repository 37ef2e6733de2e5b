use Rattle.dv_walks.proofs.FoundLemmas.{IsLeastWalk-one}
use Rattle.dv_walks.proofs.laws.least_walk_is_one.Goals as goal

pub returns : goal.returns
returns c = IsLeastWalk-one
