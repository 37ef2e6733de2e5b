use Rattle.std.proofs.Common.{ℕ, List, ap, arith, ◌∙◌}
use Rattle.dv_lms.specs.Signed.{signature_of}
use Rattle.dv_register.specs.SigningKey.{LeafState}
use Rattle.dv_x509.specs.Own.{OwnCertificate, OwnTbs}
use Rattle.dv_commands.proofs.CertificateLemmas.{own_made}
use Rattle.dv_commands.proofs.certificate.own_again.Goals as goal

pub returns-in_ok-own_certificate-in-Ok-clause-made : goal.returns-in_ok-own_certificate-in-Ok-clause-made
returns-in_ok-own_certificate-in-Ok-clause-made c =
    let key = c.args.key.now in
    let parts = c.in-Ok.parts in
    let tbs = c.in_ok-tbs-in-Ok.tbs.items in
    let signed = c.sign-signature.ensures.octets
    ∙ ap (λ (l : LeafState). signature_of key l.number c.deref.result.now) c.into_leaf.ensures
    ∙ ap (signature_of key c.args.slot.leaf.number) c.deref.ensures.value in
    own_made key c.args.slot.leaf.number c.args.slot.serial c.args.contents.now parts tbs c.in_ok-own_certificate-in-Ok.field-0.items
    c.in-Ok.ensures.decoded.exact
    (omega (arith, c.seconds-from.ensures.value, c.seconds-from.ensures.within))
    (omega (arith, c.seconds-until.ensures.value, c.seconds-until.ensures.within))
    (c.in_ok-tbs-in-Ok.ensures
    ∙ ap (λ (k : List ℕ). OwnTbs parts.name.now parts.from parts.until k c.serial.result) c.public.ensures
    ∙ ap (OwnTbs parts.name.now parts.from parts.until _) c.serial.ensures)
    (c.in_ok-own_certificate-in-Ok.ensures
    ∙ ap (λ (t : List ℕ). OwnCertificate t c.as_slice.result.now) c.deref-in-Ok.ensures.value
    ∙ ap (OwnCertificate tbs) (c.as_slice.ensures ∙ signed))
