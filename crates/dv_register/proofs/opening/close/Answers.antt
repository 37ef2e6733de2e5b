use Rattle.std.proofs.Common.{subst, sym}
use Rattle.dv_outside.proofs.Moments.{leaves_none}
use Rattle.dv_register.specs.Steps.{GateOnly}
use Rattle.dv_register.proofs.StepLemmas.{gate_same}
use Rattle.dv_register.proofs.opening.close.Goals as goal

pub returns-then-octet-eq-CLOSED-clause-images : goal.returns-then-octet-eq-CLOSED-clause-images
returns-then-octet-eq-CLOSED-clause-images g c = λ told behind.
    let file = (g.V.Station.content c.args.station.now).reads in
    leaves_none (GateOnly c.args.gate file) (g.V.Station.content c.args.station.now)
    (λ i at. subst (GateOnly c.args.gate file) (sym ((c.requires.quiet told).durable i at)) (gate_same c.args.gate file (c.requires.quiet told).within))
