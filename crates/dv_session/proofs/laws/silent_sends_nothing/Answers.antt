use Rattle.dv_session.proofs.SendingLemmas.{silent_sends_nothing}
use Rattle.dv_session.proofs.laws.silent_sends_nothing.Goals as goal

pub returns-clause-silent : goal.returns-clause-silent
returns-clause-silent g c = λ octets start old new sent keeps silent. silent_sends_nothing octets _ _ _ sent keeps silent

pub returns-clause-looks : goal.returns-clause-looks
returns-clause-looks g c = λ octets start old new sent look. silent_sends_nothing octets _ _ _ sent look.keeps look.silent
