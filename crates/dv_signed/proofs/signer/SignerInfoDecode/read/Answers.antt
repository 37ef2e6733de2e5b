use Rattle.std.proofs.Common.{rules, arith, ◌≡◌, Ok, ◌∙◌}
use Rattle.std.proofs.lemmas.Grind.{common_steps}
use Rattle.std.specs.Option.{option_copied}
use Rattle.dv_schema.specs.Schema.{ValueOf, spelling}
use Rattle.dv_schema.specs.Reading.{Spot, read}
use Rattle.dv_schema.proofs.Kept.{kept_value}
use Rattle.dv_schema.proofs.Takes.{takes, taken_text}
use Rattle.dv_names.specs.Views.{view_algorithm}
use Rattle.dv_cms.specs.Types.{signer_info}
use Rattle.dv_signed.specs.Fields.{signer_with}
use Rattle.dv_signed.specs.SidView.{view_sid}
use Rattle.dv_signed.proofs.signer.SignerInfoDecode.read.Goals as goal

-- the fields
fields : goal.After-up_to-raw → ValueOf signer_info
fields c = signer_with c.in_ok-version.version (view_sid c.in_ok-sid.sid) (view_algorithm c.in_ok-digest_alg.digest_alg) (option_copied c.in_ok-attributes.attributes) (view_algorithm c.in_ok-signature_alg.signature_alg) c.in_ok-signature.signature.now (option_copied c.in_ok-unsigned_attributes.unsigned_attributes)

pub invariant_of-result : goal.invariant_of-result
unfolding read fields
invariant_of-result c =
    let x : ValueOf signer_info × Spot = (fields c, c.enter.new.self) in
    let whole : read signer_info c.args.c.now ≡ Ok x = first_of (search rules, grind (arith, common_steps)) in
    let f = c.fork-next.ensures in
    let t = takes signer_info c.args.c.now x f.octets whole in
    record {
      spelled = kept_value signer_info c.args.c.now x f.octets f.levels f.room whole;
      whole = c.up_to-raw.ensures ∙ taken_text c.args.c.now c.enter.new.self (spelling signer_info (fields c)) t.0.octets;
    }
