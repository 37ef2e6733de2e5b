use Rattle.std.proofs.Common.{◌≡◌, true, subst, sym}
use Rattle.dv_draft.specs.Records.{IsCertificate}
use Rattle.dv_draft.proofs.ServerLemmas.{not_all, one_more}
use Rattle.dv_draft.proofs.server.are_certificates.Goals as goal

pub returns-then-not-is_certificate : goal.returns-then-not-is_certificate
returns-then-not-is_certificate c =
    let v = c.certificate-item.result in
    let none : IsCertificate v.items → ⊥ = λ h.
    let here = c.is_certificate.ensures.1 (subst IsCertificate (sym c.deref.ensures.value) h) in
    let not = c.if-not-is_certificate.true in
    cc in
    (λ t. absurd cc, λ all. absurd (not_all c.args.certificates.now c.loop-certificate.certificate-index v c.loop-certificate-test.true c.certificate-item.is none all))

pub loop-certificate-preserved : goal.loop-certificate-preserved
loop-certificate-preserved c =
    let v = c.certificate-item.result in
    let yes : c.is_certificate.result ≡ true = c.if-not-is_certificate.false in
    let here = subst IsCertificate c.deref.ensures.value (c.is_certificate.ensures.0 yes) in
    one_more c.args.certificates.now c.loop-certificate.certificate-index v c.loop-certificate-test.true c.certificate-item.is here c.loop-certificate.invariant
