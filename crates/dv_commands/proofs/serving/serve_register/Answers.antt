use Rattle.dv_commands.proofs.ServingLemmas.{served_on}
use Rattle.std.proofs.Common.{sym}
use Rattle.dv_commands.proofs.serving.serve_register.Goals as goal

pub returns-in-Ok-clause-answer : goal.returns-in-Ok-clause-answer
returns-in-Ok-clause-answer g c =
    served_on g.V.Station.tells g.V.Station.content g.V.Station.counts c.args.desk.now.server c.args.desk.now.trust _ _ _ _ _ c.args.desk.now.key c.args.station c.into_station.result
    c.serve_own-answer.result c.in-Ok.register c.serve_own-answer.new.register
    (record {
      identity = c.in-Ok.ensures.identity;
      base = c.in-Ok.ensures.base;
      shut = c.in-Ok.ensures.shut;
      opening = c.in-Ok.ensures.opening;
      stands = c.in-Ok.ensures.stands;
      kept = c.in-Ok.ensures.kept;
      keeps = c.in-Ok.ensures.keeps;
      runs = c.in-Ok.ensures.runs;
      tells_same = c.in-Ok.ensures.tells;
      faults = c.in-Ok.ensures.spends.later;
      put_faults = c.in-Ok.ensures.puts;
    })
    c.serve_own-answer.ensures.kept c.serve_own-answer.ensures.same (sym c.into_station.ensures.station) c.serve_own-answer.ensures.tells c.serve_own-answer.ensures.serves
