use Rattle.std.proofs.Common.{rules, arith, ◌≡◌, Ok}
use Rattle.std.proofs.lemmas.Grind.{common_steps}
use Rattle.dv_schema.specs.Rules.{flag_octets}
use Rattle.dv_names.specs.Types.{extension}
use Rattle.dv_schema.specs.Schema.{ValueOf}
use Rattle.dv_schema.specs.Reading.{Spot, read}
use Rattle.dv_schema.proofs.Kept.{kept_value}
use Rattle.dv_names.proofs.extension.ExtensionDecode.read.Goals as goal

pub invariant_of-result : goal.invariant_of-result
unfolding read
invariant_of-result c =
    let x : ValueOf extension × Spot = ((c.in_ok-oid.oid.octets.now, (flag_octets c.in_ok-critical.critical, (c.in_ok-value.value.now, tt))), c.enter.new.self) in
    let whole : read extension c.args.c.now ≡ Ok x = first_of (search rules, grind (arith, common_steps)) in
    record { spelled = kept_value extension c.args.c.now x c.fork-next.ensures.octets c.fork-next.ensures.levels c.fork-next.ensures.room whole }
