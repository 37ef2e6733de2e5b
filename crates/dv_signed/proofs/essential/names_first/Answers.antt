use Rattle.std.proofs.Common.{◌≡◌, ◌∙◌, Ok, Err, sym, ap}
use Rattle.dv_schema.specs.Schema.{ValueOf}
use Rattle.dv_schema.specs.Reading.{Spot, read}
use Rattle.dv_members.specs.Members.{front_of}
use Rattle.dv_signed.specs.Essential.{certificate_id}
use Rattle.dv_signed.specs.IdView.{view_id}
use Rattle.dv_signed.proofs.CertificateIds.{first_read, first_refused}
use Rattle.dv_signed.proofs.essential.names_first.Goals as goal

pub returns-in-Err : goal.returns-in-Err
returns-in-Err c = λ vs all.
    (let e : read certificate_id (front_of c.args.certs.now) ≡ Err c.in-Err.field-0 = ap (read certificate_id) (sym c.new.ensures) ∙ c.in-Err.ensures.0 in
    first_refused c.args.certificate.now c.args.certs.now c.in-Err.field-0 vs e all)

pub returns-in-Ok : goal.returns-in-Ok
returns-in-Ok c = λ vs all.
    (let x : ValueOf certificate_id × Spot = (view_id c.in-Ok.id, c.read.new.c) in
    let e : read certificate_id (front_of c.args.certs.now) ≡ Ok x = ap (read certificate_id) (sym c.new.ensures) ∙ c.in-Ok.ensures in
    c.is_hash.ensures ∙ first_read c.args.certificate.now c.args.certs.now x vs e all)
