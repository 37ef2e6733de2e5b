use Rattle.std.proofs.Common.{rules, arith, ◌≡◌, Ok}
use Rattle.std.proofs.lemmas.Grind.{common_steps}
use Rattle.dv_schema.specs.Rules.{flag_octets}
use Rattle.dv_schema.specs.Schema.{ValueOf}
use Rattle.dv_schema.specs.Reading.{Spot, read}
use Rattle.dv_schema.proofs.Kept.{kept_value}
use Rattle.dv_request.specs.Types.{path_input}
use Rattle.dv_request.proofs.path_input.PathInputDecode.read.Goals as goal

pub invariant_of-result : goal.invariant_of-result
unfolding read
invariant_of-result c =
    let x : ValueOf (path_input 160) × Spot = ((c.in_ok-policies.policies.now, (flag_octets c.in_ok-inhibit_mapping.inhibit_mapping, (flag_octets c.in_ok-explicit.explicit, (flag_octets c.in_ok-inhibit_any.inhibit_any, tt)))), c.enter.new.self) in
    let whole : read (path_input 160) c.args.c.now ≡ Ok x = first_of (search rules, grind (arith, common_steps)) in
    record { spelled = kept_value (path_input 160) c.args.c.now x c.fork-next.ensures.octets c.fork-next.ensures.levels c.fork-next.ensures.room whole }
