use Rattle.dv_commands.proofs.ServingLemmas.{serves_from}
use Rattle.dv_commands.proofs.serving.serve_own.Goals as goal

pub returns-in-Ok-true-clause-serves : goal.returns-in-Ok-true-clause-serves
returns-in-Ok-true-clause-serves g c = (
  c.in-Ok-true.ensures.own.0 c.in-Ok-true.field-0-test,
  serves_from g.V.Station.tells g.V.Station.content g.V.Station.counts c.args.desk.now.server c.args.desk.now.trust _ _ _ _ _ c.serve.result c.args.register.now c.has_own.new.register c.serve.new.register
      c.has_own.ensures.list c.has_own.ensures.shut c.has_own.ensures.same c.has_own.ensures.tells c.has_own.ensures.looks c.serve.ensures.run,
)
