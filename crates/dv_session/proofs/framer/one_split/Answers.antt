use Rattle.dv_session.proofs.RequestLemmas.{same_split}
use Rattle.dv_session.proofs.framer.one_split.Goals as goal

pub returns : goal.returns
returns c = same_split
