use Rattle.dv_draft.proofs.RecordLemmas.{read_again}
use Rattle.dv_draft.proofs.reading_laws.records_are_read_again.Goals as goal

pub returns : goal.returns
returns c = read_again
