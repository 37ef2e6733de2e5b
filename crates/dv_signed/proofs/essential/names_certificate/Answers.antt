use Rattle.std.proofs.Common.{◌≡◌, ◌∙◌, Ok, Err, sym, ap, subst}
use Rattle.dv_schema.specs.Octets.{IsBytes}
use Rattle.dv_schema.specs.Schema.{ValueOf}
use Rattle.dv_schema.specs.Reading.{Spot, read}
use Rattle.dv_members.specs.Members.{front_of, values_in}
use Rattle.dv_signed.specs.Essential.{certificate_id, signing_certificate}
use Rattle.dv_signed.specs.IdView.{view_signing}
use Rattle.dv_signed.proofs.CertificateIds.{certs_read, names_front, names_its_first, names_none}
use Rattle.dv_signed.proofs.essential.names_certificate.Goals as goal

pub returns-in-Err : goal.returns-in-Err
returns-in-Err c =
    let e : read signing_certificate (front_of c.args.value.now) ≡ Err c.in-Err.field-0 = ap (read signing_certificate) (sym c.new-next.ensures) ∙ c.in-Err.ensures.0 in
    names_none c.args.certificate.now c.args.value.now c.in-Err.field-0 e

pub returns-then-at_end : goal.returns-then-at_end
returns-then-at_end c =
    let x : ValueOf signing_certificate × Spot = (view_signing c.in-Ok.signing, c.read.new.c) in
    let e : read signing_certificate (front_of c.args.value.now) ≡ Ok x = ap (read signing_certificate) (sym c.new-next.ensures) ∙ c.in-Ok.ensures in
    let bytes : IsBytes c.args.value.now = subst (λ (p : Spot). IsBytes p.rest) c.new-next.ensures c.fork-octets.ensures.octets in
    c.names_first.ensures (values_in certificate_id x.0.0) (certs_read c.args.value.now x bytes e)
    ∙ names_its_first c.args.certificate.now c.args.value.now x e (sym c.at_end.ensures ∙ c.if-at_end.true)

pub returns-else-at_end : goal.returns-else-at_end
returns-else-at_end c =
    let x : ValueOf signing_certificate × Spot = (view_signing c.in-Ok.signing, c.read.new.c) in
    let e : read signing_certificate (front_of c.args.value.now) ≡ Ok x = ap (read signing_certificate) (sym c.new-next.ensures) ∙ c.in-Ok.ensures in
    names_front c.args.certificate.now c.args.value.now x e (sym c.at_end.ensures ∙ c.if-at_end.false)
