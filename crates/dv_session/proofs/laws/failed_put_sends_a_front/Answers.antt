use Rattle.dv_session.proofs.SendingLemmas.{failed_put_sends_a_front}
use Rattle.dv_session.proofs.laws.failed_put_sends_a_front.Goals as goal

pub returns : goal.returns
returns g c = λ octets piece start old new error sent put. failed_put_sends_a_front error octets piece _ _ _ sent put
