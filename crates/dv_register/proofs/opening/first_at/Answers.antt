use Rattle.std.proofs.Common.{◌≡◌, length, sym, arith, rules}
use Rattle.dv_register.proofs.HeadLemmas.{head_cause}
use Rattle.dv_register.proofs.opening.first_at.Goals as goal

pub returns-clause-refused : goal.returns-clause-refused
returns-clause-refused g c = λ limit.
    let size : length c.read_at.new.into ≡ 76 = search rules in
    head_cause c.first_serial.result _ (g.V.Station.content c.args.station.now).reads c.args.key.now c.read_at.new.into limit _ _ size
    (λ told. omega (arith, c.requires told)) (λ told. sym (c.in_ok-read_at.ensures.octets told)) c.first_serial.ensures.refused
