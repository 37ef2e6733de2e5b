use Rattle.dv_session.proofs.SendingLemmas.{nothing_sent}
use Rattle.dv_session.proofs.laws.nothing_sent.Goals as goal

pub returns : goal.returns
returns g c = λ at. nothing_sent (g.V.Station.content at)
