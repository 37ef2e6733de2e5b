use Rattle.dv_walks.proofs.AgreeLemmas.{IsLeastWalk-agrees, IsWalk-agrees}
use Rattle.dv_walks.proofs.laws.walks_of_agreeing_graphs.Goals as goal

pub returns : goal.returns
returns c = record { walks = IsWalk-agrees; least = IsLeastWalk-agrees }
