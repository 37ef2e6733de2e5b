use Rattle.dv_request.proofs.StrictLemmas.{message_has_spelling}
use Rattle.dv_request.proofs.laws.messages_have_spellings.Goals as goal

pub returns : goal.returns
returns c = message_has_spelling
