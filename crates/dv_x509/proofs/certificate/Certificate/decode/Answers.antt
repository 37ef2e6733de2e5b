use Rattle.std.proofs.Common.{◌≡◌, ◌≤◌, ℕ, true, false, List, length, Result, Ok, Err, ap, sym, subst, ◌∙◌, arith}
use Rattle.dv_schema.specs.declared.refusal.Der.{Der}
use Rattle.dv_schema.specs.Octets.{IsBytes}
use Rattle.dv_schema.specs.Schema.{FieldsOf}
use Rattle.dv_schema.specs.Reading.{Spot, read_all}
use Rattle.dv_schema.proofs.Decoding.{slice_takes}
use Rattle.dv_x509.specs.declared.fault.X509.{X509}
use Rattle.dv_x509.specs.Judged.{certificate_front, is_known_version, judged_if, same_algorithm}
use Rattle.dv_x509.specs.Types.{certificate, certificate_fields}
use Rattle.dv_x509.specs.WholeView.{view_whole}
use Rattle.dv_x509.proofs.Judging.{decoded, fits_as_sequence, short_as_sequence, too_long, two_algorithms, unknown_version, well_judged}
use Rattle.dv_x509.proofs.certificate.Certificate.decode.Goals as goal

-- what was read from the cursor was read from the octets
from_front : (tag : ℕ) (octets : List ℕ) (p : Spot) (r : Result (FieldsOf certificate_fields) Der) → p ≡ certificate_front octets → read_all (certificate tag) p ≡ r → read_all (certificate tag) (certificate_front octets) ≡ r
from_front tag octets p r is e = ap (read_all (certificate tag)) (sym is) ∙ e

pub returns-then-bytes-gt-CERTIFICATE_LIMIT : goal.returns-then-bytes-gt-CERTIFICATE_LIMIT
returns-then-bytes-gt-CERTIFICATE_LIMIT c = too_long c.args.tag c.args.bytes.now c.if-bytes-gt-CERTIFICATE_LIMIT.true

pub returns-in-Err : goal.returns-in-Err
returns-in-Err c =
    let few : length c.args.bytes.now ≤ 8192 = omega (arith, c.if-bytes-gt-CERTIFICATE_LIMIT.false) in
    let bytes : IsBytes c.args.bytes.now = subst (λ (p : Spot). IsBytes p.rest) c.at_depth-c.ensures c.fork-octets.ensures.octets in
    let e = from_front c.args.tag c.args.bytes.now c.at_depth-c.result (Err c.in-Err.refusal) c.at_depth-c.ensures c.in-Err.ensures.value in
    decoded c.args.tag c.args.bytes.now _ c.requires few bytes (ap judged_if e)

pub returns-then-not-has_known_version : goal.returns-then-not-has_known_version
returns-then-not-has_known_version c =
    let few : length c.args.bytes.now ≤ 8192 = omega (arith, c.if-bytes-gt-CERTIFICATE_LIMIT.false) in
    let bytes : IsBytes c.args.bytes.now = subst (λ (p : Spot). IsBytes p.rest) c.at_depth-c.ensures c.fork-octets.ensures.octets in
    let v : FieldsOf certificate_fields = view_whole c.in-Ok.whole in
    let e = from_front c.args.tag c.args.bytes.now c.at_depth-c.result (Ok v) c.at_depth-c.ensures c.in-Ok.ensures.value in
    let unknown : is_known_version v.0.0 ≡ false = sym c.has_known_version.ensures ∙ c.if-not-has_known_version.true in
    decoded c.args.tag c.args.bytes.now _ c.requires few bytes (ap judged_if e ∙ unknown_version v unknown)

pub returns-then-not-has_one_algorithm : goal.returns-then-not-has_one_algorithm
returns-then-not-has_one_algorithm c =
    let few : length c.args.bytes.now ≤ 8192 = omega (arith, c.if-bytes-gt-CERTIFICATE_LIMIT.false) in
    let bytes : IsBytes c.args.bytes.now = subst (λ (p : Spot). IsBytes p.rest) c.at_depth-c.ensures c.fork-octets.ensures.octets in
    let v : FieldsOf certificate_fields = view_whole c.in-Ok.whole in
    let e = from_front c.args.tag c.args.bytes.now c.at_depth-c.result (Ok v) c.at_depth-c.ensures c.in-Ok.ensures.value in
    let known : is_known_version v.0.0 ≡ true = sym c.has_known_version.ensures ∙ c.if-not-has_known_version.false in
    let two : same_algorithm v.0.1.1.0 v.1.0 ≡ false = sym c.has_one_algorithm.ensures ∙ c.if-not-has_one_algorithm.true in
    decoded c.args.tag c.args.bytes.now _ c.requires few bytes (ap judged_if e ∙ two_algorithms v known two)

pub of-requires-clause-spelled : goal.of-requires-clause-spelled
of-requires-clause-spelled c =
    let few : length c.args.bytes.now ≤ 8192 = omega (arith, c.if-bytes-gt-CERTIFICATE_LIMIT.false) in
    let bytes : IsBytes c.args.bytes.now = subst (λ (p : Spot). IsBytes p.rest) c.at_depth-c.ensures c.fork-octets.ensures.octets in
    let v : FieldsOf certificate_fields = view_whole c.in-Ok.whole in
    let e = from_front c.args.tag c.args.bytes.now c.at_depth-c.result (Ok v) c.at_depth-c.ensures c.in-Ok.ensures.value in
    fits_as_sequence c.args.tag v c.requires (slice_takes (certificate c.args.tag) (certificate_front c.args.bytes.now) v bytes e).0

pub of-requires-clause-short : goal.of-requires-clause-short
of-requires-clause-short c =
    let few : length c.args.bytes.now ≤ 8192 = omega (arith, c.if-bytes-gt-CERTIFICATE_LIMIT.false) in
    let bytes : IsBytes c.args.bytes.now = subst (λ (p : Spot). IsBytes p.rest) c.at_depth-c.ensures c.fork-octets.ensures.octets in
    let v : FieldsOf certificate_fields = view_whole c.in-Ok.whole in
    let e = from_front c.args.tag c.args.bytes.now c.at_depth-c.result (Ok v) c.at_depth-c.ensures c.in-Ok.ensures.value in
    short_as_sequence c.args.tag c.args.bytes.now v few (slice_takes (certificate c.args.tag) (certificate_front c.args.bytes.now) v bytes e).1

pub returns : goal.returns
returns c =
    let few : length c.args.bytes.now ≤ 8192 = omega (arith, c.if-bytes-gt-CERTIFICATE_LIMIT.false) in
    let bytes : IsBytes c.args.bytes.now = subst (λ (p : Spot). IsBytes p.rest) c.at_depth-c.ensures c.fork-octets.ensures.octets in
    let v : FieldsOf certificate_fields = view_whole c.in-Ok.whole in
    let e = from_front c.args.tag c.args.bytes.now c.at_depth-c.result (Ok v) c.at_depth-c.ensures c.in-Ok.ensures.value in
    let known : is_known_version v.0.0 ≡ true = sym c.has_known_version.ensures ∙ c.if-not-has_known_version.false in
    let one : same_algorithm v.0.1.1.0 v.1.0 ≡ true = sym c.has_one_algorithm.ensures ∙ c.if-not-has_one_algorithm.false in
    let made : FieldsOf certificate_fields → Result (FieldsOf certificate_fields) X509 = λ w. Ok w in
    decoded c.args.tag c.args.bytes.now _ c.requires few bytes (ap judged_if e ∙ well_judged v known one ∙ ap made (sym c.of.ensures))
