use Rattle.std.proofs.Common.{◌∙◌}
use Rattle.dv_outside.proofs.Moments.{keeps_none}
use Rattle.dv_commands.proofs.LifeLemmas.{kept_life, opened_life}
use Rattle.dv_commands.proofs.laws.runs_are_lives.Goals as goal

pub returns-clause-opened : goal.returns-clause-opened
returns-clause-opened g c = opened_life g.V.Station.tells g.V.Station.content g.V.Station.counts

pub returns-clause-before : goal.returns-clause-before
returns-clause-before g c = λ key first station result opened closed last run told lasting from to.
    let o = run.is_opened in
    kept_life g.V.Station.tells g.V.Station.content g.V.Station.counts key first station opened.station result last (o.keeps told) lasting (run.goes_on.later (o.tells_same ∙ told)) from to

pub returns-clause-refused : goal.returns-clause-refused
returns-clause-refused g c = λ key first station result e last refused told lasting from to.
    kept_life g.V.Station.tells g.V.Station.content g.V.Station.counts key first station result result last (refused.keeps told) lasting (keeps_none (g.V.Station.content result)) from to
