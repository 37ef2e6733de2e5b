use Rattle.dv_draft.proofs.LawLemmas.{own_again, own_fits}
use Rattle.dv_draft.proofs.laws.own_records_are_read_again.Goals as goal

pub returns : goal.returns
returns c = record { fits = own_fits; again = own_again }
