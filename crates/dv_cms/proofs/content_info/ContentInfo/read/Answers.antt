use Rattle.std.proofs.Common.{rules, arith, ◌≡◌, Ok}
use Rattle.std.proofs.lemmas.Grind.{common_steps}
use Rattle.dv_schema.specs.Schema.{ValueOf}
use Rattle.dv_schema.specs.Reading.{Spot, read}
use Rattle.dv_schema.proofs.Kept.{kept_value}
use Rattle.dv_cms.specs.Types.{content_info}
use Rattle.dv_cms.proofs.content_info.ContentInfo.read.Goals as goal

pub invariant_of-result : goal.invariant_of-result
unfolding read
invariant_of-result c =
    let x : ValueOf content_info × Spot = ((c.in_ok-oid.oid.now, ((c.in_ok-content.content.now, tt), tt)), c.enter.new.self) in
    let whole : read content_info c.args.c.now ≡ Ok x = first_of (search rules, grind (arith, common_steps)) in
    record { spelled = kept_value content_info c.args.c.now x c.fork-next.ensures.octets c.fork-next.ensures.levels c.fork-next.ensures.room whole }
