use Rattle.dv_session.proofs.ReadLemmas.{reads_none, reads_more}
use Rattle.dv_session.proofs.framer.any_pieces.Goals as goal

pub returns-clause-none : goal.returns-clause-none
returns-clause-none c = reads_none

pub returns-clause-more : goal.returns-clause-more
returns-clause-more c = reads_more
