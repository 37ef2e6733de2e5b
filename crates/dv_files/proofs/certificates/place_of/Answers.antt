use Rattle.std.proofs.Common.{◌+◌, Err, ap, arith}
use Rattle.dv_x509.specs.declared.fault.X509.{X509}
use Rattle.dv_draft.specs.Records.{kept_at}
use Rattle.dv_files.proofs.Nexts.{own_place}
use Rattle.dv_files.proofs.certificates.place_of.Goals as goal

pub returns-in-Der : goal.returns-in-Der
returns-in-Der c =
    λ octets.
    (record { place = c.args.place + c.in-Der.refusal.place; why = c.in-Der.refusal.why }, ap (λ (x : X509). kept_at c.args.place octets (Err x)) c.in-Der.is, λ small. omega (arith, c.saturating_add.ensures, small))

pub returns-in-Version : goal.returns-in-Version
returns-in-Version c = own_place c.args.place c.args.cause c.in-Version.is
