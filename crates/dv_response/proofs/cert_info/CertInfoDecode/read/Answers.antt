use Rattle.std.proofs.Common.{rules, arith, ◌≡◌, Ok}
use Rattle.std.proofs.lemmas.Grind.{common_steps}
use Rattle.dv_schema.specs.Schema.{ValueOf}
use Rattle.dv_schema.specs.Reading.{Spot, read}
use Rattle.dv_schema.proofs.Kept.{kept_value}
use Rattle.dv_response.specs.Parts.{certified}
use Rattle.dv_response.specs.Types.{cert_info}
use Rattle.dv_response.proofs.cert_info.CertInfoDecode.read.Goals as goal

pub invariant_of-result : goal.invariant_of-result
unfolding read
invariant_of-result c =
    let v : ValueOf cert_info = certified c.in-Ok.info c.in_ok-imprint.imprint c.in_ok-serial.serial c.in_ok-time.time c.in-Ok-read_status.status c.in_ok-policy.policy c.in_ok-req_signature.req_signature c.in_ok-certs.certs c.in_ok-extensions.extensions in
    let x : ValueOf cert_info × Spot = (v, c.enter.new.self) in
    let whole : read cert_info c.args.c.now ≡ Ok x = first_of (search rules, grind (arith, common_steps)) in
    record { spelled = kept_value cert_info c.args.c.now x c.fork-next.ensures.octets c.fork-next.ensures.levels c.fork-next.ensures.room whole }
