use Rattle.std.proofs.Common.{Err, ap, arith, refl}
use Rattle.dv_svc_document.proofs.BagLemmas.{fit_one}
use Rattle.dv_svc_document.proofs.bag.add.Goals as goal

pub returns-in-Ok-clause-fit : goal.returns-in-Ok-clause-fit
returns-in-Ok-clause-fit c = fit_one c.args.certificate.now c.args.bag.now c.add.new.self (λ i. omega (arith, c.type_inv.certificate i)) c.in-Ok.ensures.added

pub returns-in-Err-Bad-clause-refused : goal.returns-in-Err-Bad-clause-refused
returns-in-Err-Bad-clause-refused c =
    let bad = (c.in-Err-Bad.ensures.bad c.in-Err-Bad.fault).0 (ap Err c.in-Err-Bad.field-0-is) in
    (refl, bad.1)
