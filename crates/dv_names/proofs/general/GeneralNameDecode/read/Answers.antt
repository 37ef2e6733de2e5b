use Rattle.std.proofs.Common.{rules, arith, ◌≡◌, Ok}
use Rattle.std.proofs.lemmas.Grind.{common_steps}
use Rattle.dv_schema.specs.Schema.{ValueOf}
use Rattle.dv_schema.specs.Reading.{Spot, read}
use Rattle.dv_schema.proofs.Kept.{kept_value}
use Rattle.dv_names.specs.Types.{general_name}
use Rattle.dv_names.proofs.general.GeneralNameDecode.read.Goals as goal

pub invariant_of-result : goal.invariant_of-result
unfolding read
invariant_of-result c =
    let v : ValueOf general_name = (c.in_ok-tag.tag, c.rest.result.now) in
    let x : ValueOf general_name × Spot = (v, c.enter_one_of.new.self) in
    let whole : read general_name c.args.c.now ≡ Ok x = first_of (search rules, grind (arith, common_steps)) in
    record { spelled = kept_value general_name c.args.c.now x c.fork-next.ensures.octets c.fork-next.ensures.levels c.fork-next.ensures.room whole }
