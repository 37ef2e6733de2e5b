use Rattle.std.proofs.Common.{rules, arith, ◌≡◌, Ok}
use Rattle.std.proofs.lemmas.Grind.{common_steps}
use Rattle.dv_schema.specs.Schema.{ValueOf}
use Rattle.dv_schema.specs.Reading.{Spot, read}
use Rattle.dv_schema.proofs.Kept.{kept_value}
use Rattle.dv_names.specs.Types.{name}
use Rattle.dv_names.proofs.name.NameDecode.read.Goals as goal

pub invariant_of-result : goal.invariant_of-result
unfolding read
invariant_of-result c =
    let x : ValueOf name × Spot = (c.up_to-raw.result.now, c.enter.new.self) in
    let whole : read name c.args.c.now ≡ Ok x = first_of (search rules, grind (arith, common_steps)) in
    record { spelled = kept_value name c.args.c.now x c.fork-next.ensures.octets c.fork-next.ensures.levels c.fork-next.ensures.room whole }
