-- What decodes as a certificate may stand in a request; what is longer than one isn't one.
use Rattle.std.proofs.Common.{◌≡◌, subst}
use Rattle.dv_request.specs.Materials.{IsCertificate as FitsRequest}
use Rattle.dv_outside.specs.declared.shelf.ShelfRefusal.TheVariants.{TooLong}
use Rattle.dv_x509.specs.View.{view_certificate}
use Rattle.dv_exit.specs.declared.status.Status.TheVariants.{File}
use Rattle.dv_draft.proofs.WellCertificates.{certificate_fits}
use Rattle.dv_tool.proofs.CertificateLemmas.{long_file}
use Rattle.dv_tool.proofs.validate.read_certificate.Goals as goal

pub returns-in-Err-clause-none : goal.returns-in-Err-clause-none
returns-in-Err-clause-none g c = λ e.
    let file : c.refused.result ≡ File = (cc) in
    let refusal : c.in-Err.refusal ≡ TooLong = c.refused.ensures.too_long.0 file in
    long_file _ (g.F.Shelf.files c.args.shelf.now) c.args.name.now (cc) c.in-Err.ensures.too_long

pub returns-in-Ok-decode-clause-fits : goal.returns-in-Ok-decode-clause-fits
returns-in-Ok-decode-clause-fits g c =
    let found = c.in-Ok-decode.ensures.found in
    subst FitsRequest c.deref.ensures.value (certificate_fits c.deref.result.now (view_certificate c.in-Ok-decode.field-0) found.0 found.1)
