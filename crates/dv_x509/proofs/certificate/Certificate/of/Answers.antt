use Rattle.std.proofs.Common.{◌≤◌, length, ap, sym, subst, ◌∙◌}
use Rattle.std.specs.Prelude.{option_map}
use Rattle.std.specs.Option.{option_copied}
use Rattle.dv_schema.specs.Schema.{FieldsOf, ValueOf, contents, spelling}
use Rattle.dv_schema.specs.Fits.{Fits}
use Rattle.dv_names.specs.Types.{algorithm_identifier}
use Rattle.dv_names.specs.Views.{view_algorithm, view_name}
use Rattle.dv_x509.specs.declared.whole.Whole.{Whole}
use Rattle.dv_x509.specs.Fields.{view_bits, view_extensions, view_version}
use Rattle.dv_x509.specs.TbsView.{view_key, view_validity}
use Rattle.dv_x509.specs.Types.{certificate, certificate_fields, tbs_certificate}
use Rattle.dv_x509.proofs.Algorithms.{algorithms_are}
use Rattle.dv_x509.proofs.ExtensionLists.{extensions_are_read}
use Rattle.dv_x509.proofs.certificate.Certificate.of.Goals as goal

-- the signed part with this algorithm
abbrev signed_with : Whole → ValueOf algorithm_identifier → ValueOf tbs_certificate
signed_with w a = (
  view_version w.tbs.version,
  (
    w.tbs.serial.now,
    (
      a,
      (
        view_name w.tbs.issuer,
        (
          view_validity w.tbs.validity,
          (
            view_name w.tbs.subject,
            (
              view_key w.tbs.key,
              (option_map view_bits w.tbs.issuer_id, (option_map view_bits w.tbs.subject_id, (view_extensions w.tbs.extensions, tt))),
            ),
          ),
        ),
      ),
    ),
  ),
)

-- the certificate with it
abbrev made_with : Whole → ValueOf algorithm_identifier → FieldsOf certificate_fields
made_with w a = (signed_with w a, (view_algorithm w.alg, (view_bits w.signature, tt)))

pub invariant_of-result : goal.invariant_of-result
invariant_of-result c =
    let w : Whole = c.args.whole.now in
    let is = algorithms_are (view_algorithm w.tbs.alg) (view_algorithm w.alg) c.requires.agreed in
    record {
      spelled = ∣ subst (λ (a : ValueOf algorithm_identifier). Fits (certificate 48) 26 (made_with w a)) is c.requires.spelled ∣₁;
      short = subst (λ (a : ValueOf algorithm_identifier). length (spelling (certificate 48) (made_with w a)) ≤ 8192) is c.requires.short;
      whole = c.requires.body ∙ ap (λ (a : ValueOf algorithm_identifier). contents certificate_fields (made_with w a)) is;
      signed = c.requires.signed ∙ ap (λ (a : ValueOf algorithm_identifier). spelling tbs_certificate (signed_with w a)) is;
      stated = c.requires.stated;
      listed = extensions_are_read (option_copied w.tbs.extensions) c.requires.spelled.2.0.2.1.1.1.1.1.1.1.1.1.0;
    }

pub returns : goal.returns
returns c =
    let w : Whole = c.args.whole.now in
    sym (ap (made_with w) (algorithms_are (view_algorithm w.tbs.alg) (view_algorithm w.alg) c.requires.agreed))
