use Rattle.std.proofs.Common.{rules, arith, ◌≡◌, Ok}
use Rattle.std.proofs.lemmas.Grind.{common_steps}
use Rattle.dv_schema.specs.Schema.{ValueOf}
use Rattle.dv_schema.specs.Reading.{Spot, read}
use Rattle.dv_schema.proofs.Kept.{kept_value}
use Rattle.dv_names.specs.Types.{digest_info}
use Rattle.dv_names.specs.Views.{view_algorithm}
use Rattle.dv_names.proofs.algorithm.DigestInfoDecode.read.Goals as goal

pub invariant_of-result : goal.invariant_of-result
unfolding read
invariant_of-result c =
    let x : ValueOf digest_info × Spot = ((view_algorithm c.in_ok-alg.alg, (c.in_ok-digest.digest.now, tt)), c.enter.new.self) in
    let whole : read digest_info c.args.c.now ≡ Ok x = first_of (search rules, grind (arith, common_steps)) in
    record { spelled = kept_value digest_info c.args.c.now x c.fork-next.ensures.octets c.fork-next.ensures.levels c.fork-next.ensures.room whole }
