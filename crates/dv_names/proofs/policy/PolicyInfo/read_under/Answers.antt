use Rattle.std.proofs.Common.{rules, arith, ◌≡◌, Ok, refl}
use Rattle.std.proofs.lemmas.Grind.{common_steps}
use Rattle.std.specs.Option.{option_copied}
use Rattle.dv_names.specs.Types.{policy_fields, policy_information}
use Rattle.dv_schema.specs.Schema.{ValueOf}
use Rattle.dv_schema.specs.Reading.{Spot, read}
use Rattle.dv_schema.proofs.Kept.{kept_value}
use Rattle.dv_schema.proofs.KeptUnder.{kept_under}
use Rattle.dv_names.proofs.policy.PolicyInfo.read_under.Goals as goal

pub invariant_of-result : goal.invariant_of-result
unfolding read
invariant_of-result c =
    let x : ValueOf (policy_information c.args.tag) × Spot = ((c.in_ok-oid.oid.octets.now, (option_copied c.in_ok-qualifiers.qualifiers, tt)), c.enter.new.self) in
    let whole : read (policy_information c.args.tag) c.args.c.now ≡ Ok x = first_of (search rules, grind (arith, common_steps)) in
    let kept = kept_value (policy_information c.args.tag) c.args.c.now x c.fork-next.ensures.octets c.fork-next.ensures.levels c.fork-next.ensures.room whole in
    record { spelled = kept_under c.args.tag 48 policy_fields x.0 c.requires refl kept }
