use Rattle.std.proofs.Common.{◌≡◌, ◌∷◌, ◌<◌, ◌≤◌, [], length, None, refl, sym, ap, ◌∙◌, arith}
use Rattle.dv_schema.specs.Schema.{ValueOf, spelling}
use Rattle.dv_schema.specs.Fits.{Fits}
use Rattle.dv_time.specs.Text.{last_second}
use Rattle.dv_request.specs.Types.{request_information}
use Rattle.dv_draft.proofs.MadeLemmas.{plain_fits, plain_short}
use Rattle.dv_cert.proofs.room.tests.drafted.Goals as goal

-- the information of a request for possession of data
information : ValueOf request_information
information = (None, (1, (None, (None, (None, (None, (None, (None, (None, tt)))))))))

information_fits : Fits request_information 31 information
unfolding information
information_fits = (omega arith, omega arith, (tt, ((omega arith, omega arith, refl), (tt, (tt, (tt, (tt, (tt, (tt, (tt, tt))))))))))

information_octets : spelling request_information information ≡ 48 ∷ 3 ∷ 10 ∷ 1 ∷ 1 ∷ []
unfolding information
information_octets = refl

pub invariant_of-result : goal.invariant_of-result
invariant_of-result c =
    let octets = c.new.ensures ∙ c.in_ok-from_array.ensures.items in
    let same = octets ∙ sym information_octets in
    let few : length c.new.result < 4294967296 = omega (arith, ap length octets) in
    let within : c.args.time ≤ last_second = omega (arith, c.seconds-seconds.ensures.value, c.seconds-seconds.ensures.within) in
    record {
      spelled = plain_fits information c.new.result c.in_ok-imprint.imprint c.args.time None None same few (λ x e. absurd cc) tt ∣ information_fits ∣₁ within;
      short = plain_short information c.new.result c.in_ok-imprint.imprint c.args.time None None same few (λ x e. absurd cc) tt;
    }
