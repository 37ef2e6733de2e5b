use Rattle.dv_outside.proofs.Moments.{keeps_none}
use Rattle.dv_commands.proofs.LifeLemmas.{first_life, kept_life}
use Rattle.dv_commands.proofs.laws.makings_are_first_lives.Goals as goal

pub returns-clause-made : goal.returns-clause-made
returns-clause-made g c = first_life g.V.Station.tells g.V.Station.content g.V.Station.counts

pub returns-clause-refused : goal.returns-clause-refused
returns-clause-refused g c = λ key first station result e last refused told some lasting from to.
    kept_life g.V.Station.tells g.V.Station.content g.V.Station.counts key first station result result last (refused.keeps told some) lasting (keeps_none (g.V.Station.content result)) from to
