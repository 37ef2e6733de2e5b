use Rattle.dv_session.proofs.SendingLemmas.{put_sends}
use Rattle.dv_session.proofs.laws.put_sends.Goals as goal

pub returns : goal.returns
returns g c = λ octets piece start old new value sent put. put_sends value octets piece _ _ _ sent put
