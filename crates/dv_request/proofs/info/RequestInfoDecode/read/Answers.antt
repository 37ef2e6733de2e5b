use Rattle.std.proofs.Common.{rules, arith, ◌≡◌, Ok, ◌∙◌}
use Rattle.std.proofs.lemmas.Grind.{common_steps}
use Rattle.dv_schema.specs.Schema.{ValueOf, spelling}
use Rattle.dv_schema.specs.Reading.{Spot, read}
use Rattle.dv_schema.proofs.Kept.{kept_value}
use Rattle.dv_schema.proofs.Takes.{takes, taken_text}
use Rattle.dv_request.specs.Information.{information}
use Rattle.dv_request.specs.Types.{request_information}
use Rattle.dv_request.proofs.info.RequestInfoDecode.read.Goals as goal

-- the fields
fields : goal.After-up_to-raw → ValueOf request_information
fields c = information c.in_ok-version.version c.in_ok-service.service c.in_ok-nonce.nonce c.in-Ok.time c.in_ok-requester.requester c.in_ok-policy.policy c.in_ok-dvcs.dvcs c.in_ok-locations.locations c.in_ok-extensions.extensions

pub invariant_of-result : goal.invariant_of-result
unfolding read fields
invariant_of-result c =
    let x : ValueOf request_information × Spot = (fields c, c.enter.new.self) in
    let whole : read request_information c.args.c.now ≡ Ok x = first_of (search rules, grind (arith, common_steps)) in
    let f = c.fork-next.ensures in
    let t = takes request_information c.args.c.now x f.octets whole in
    record {
      spelled = kept_value request_information c.args.c.now x f.octets f.levels f.room whole;
      whole = c.up_to-raw.ensures ∙ taken_text c.args.c.now c.enter.new.self (spelling request_information (fields c)) t.0.octets;
    }
