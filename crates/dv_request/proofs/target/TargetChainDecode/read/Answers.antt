use Rattle.std.proofs.Common.{rules, arith, ◌≡◌, Ok}
use Rattle.std.proofs.lemmas.Grind.{common_steps}
use Rattle.std.specs.Prelude.{option_map}
use Rattle.std.specs.Option.{option_copied}
use Rattle.dv_schema.specs.Schema.{ValueOf}
use Rattle.dv_schema.specs.Reading.{Spot, read}
use Rattle.dv_schema.proofs.Kept.{kept_value}
use Rattle.dv_request.specs.PartViews.{view_path, view_token}
use Rattle.dv_request.specs.Types.{target_chain}
use Rattle.dv_request.proofs.target.TargetChainDecode.read.Goals as goal

pub invariant_of-result : goal.invariant_of-result
unfolding read
invariant_of-result c =
    let x : ValueOf target_chain × Spot = ((view_token c.in-Ok.target, (option_copied c.in_ok-links.links, (option_map view_path c.in_ok-input.input, tt))), c.enter.new.self) in
    let whole : read target_chain c.args.c.now ≡ Ok x = first_of (search rules, grind (arith, common_steps)) in
    record {
      spelled = kept_value target_chain c.args.c.now x c.fork-next.ensures.octets c.fork-next.ensures.levels c.fork-next.ensures.room whole;
      counted = c.in_ok-links.ensures.count;
    }
