use Rattle.std.proofs.Common.{rules, arith, ◌≡◌, Ok, refl}
use Rattle.std.proofs.lemmas.Grind.{common_steps}
use Rattle.std.specs.Prelude.{option_map}
use Rattle.std.specs.Option.{option_copied}
use Rattle.dv_schema.specs.Schema.{ValueOf}
use Rattle.dv_schema.specs.Reading.{Spot, read}
use Rattle.dv_schema.proofs.Kept.{kept_value}
use Rattle.dv_schema.proofs.KeptUnder.{kept_under}
use Rattle.dv_status.specs.Fail.{fail_octets}
use Rattle.dv_status.specs.Types.{status_fields, status_info}
use Rattle.dv_status.proofs.status.StatusInfo.read_under.Goals as goal

pub invariant_of-result : goal.invariant_of-result
unfolding read
invariant_of-result c =
    let x : ValueOf (status_info c.args.tag) × Spot = ((c.in_ok-status.status, (option_copied c.in_ok-text.text, (option_map fail_octets c.in_ok-fail.fail, tt))), c.enter.new.self) in
    let whole : read (status_info c.args.tag) c.args.c.now ≡ Ok x = first_of (search rules, grind (arith, common_steps)) in
    let kept = kept_value (status_info c.args.tag) c.args.c.now x c.fork-next.ensures.octets c.fork-next.ensures.levels c.fork-next.ensures.room whole in
    record { spelled = kept_under c.args.tag 48 status_fields x.0 c.requires refl kept }
