use Rattle.std.proofs.Common.{length, ap, arith}
use Rattle.dv_schema.specs.Reading.{Spot, read}
use Rattle.dv_schema.proofs.Moves.{moves}
use Rattle.dv_names.proofs.ExtensionTurns.{member, told}
use Rattle.dv_names.proofs.extensions.ByIdentifierKeyed.pass_key.Goals as goal

pub returns-in-Ok-clause-less : goal.returns-in-Ok-clause-less
returns-in-Ok-clause-less c =
    let t = told (read member c.args.c.now) c.in-Ok.ensures.key in
    let m = moves member c.args.c.now t.0 t.1 in
    omega (arith, m.less, ap (λ (p : Spot). length p.rest) t.2.0)
