use Rattle.std.proofs.Common.{◌∙◌, [], ap, subst, sym}
use Rattle.std.proofs.lemmas.List.{append-nil}
use Rattle.dv_commands.specs.Answers.{PutsAgain}
use Rattle.dv_commands.proofs.AnswerLemmas.{puts_again_keep, reissued}
use Rattle.dv_commands.proofs.reissuing.reissue.Goals as goal

pub returns-in-Ok-clause-answer : goal.returns-in-Ok-clause-answer
returns-in-Ok-clause-answer g c =
    let tells = g.V.Station.tells in
    let content = g.V.Station.content in
    let counts = g.V.Station.counts in
    let key = c.args.key.now in
    let opened = c.in-Ok.register in
    let closed = c.put_again-answer.new.register in
    let left = c.into_station.result in
    let station = sym c.into_station.ensures.station in
    let puts = subst (λ (s : _). PutsAgain tells content counts key opened.first opened.list c.args.serial opened.station s c.put_again-answer.result) station c.put_again-answer.ensures.puts in
    reissued tells content counts key c.args.station left c.args.serial opened closed c.put_again-answer.result
    (record {
      is_opened = record {
        identity = c.in-Ok.ensures.identity;
        base = c.in-Ok.ensures.base;
        shut = c.in-Ok.ensures.shut;
        opening = c.in-Ok.ensures.opening;
        stands = c.in-Ok.ensures.stands;
        kept = c.in-Ok.ensures.kept;
        keeps = c.in-Ok.ensures.keeps;
        runs = c.in-Ok.ensures.runs;
        tells_same = c.in-Ok.ensures.tells;
        faults = c.in-Ok.ensures.spends.later;
        put_faults = c.in-Ok.ensures.puts;
      };
      goes_on = record {
        kept = c.put_again-answer.ensures.kept;
        same = c.put_again-answer.ensures.same;
        begins = ([], c.put_again-answer.ensures.list ∙ sym (append-nil opened.list));
        station = station;
        tells_same = ap tells c.into_station.ensures.station ∙ c.put_again-answer.ensures.tells;
        later = λ told. puts_again_keep tells content counts opened.station left told key opened.first opened.list c.args.serial c.put_again-answer.result puts;
      };
    })
    c.put_again-answer.ensures.list puts
