use Rattle.std.proofs.Common.{◌∙◌, List, ℕ, ap}
use Rattle.dv_lms.specs.Signed.{signature_of}
use Rattle.dv_register.specs.SigningKey.{LeafState}
use Rattle.dv_draft.specs.CertInfo.{cert_info_of}
use Rattle.dv_cert.specs.Certificates.{sealed_with}
use Rattle.dv_cert.specs.Sealed.{sealed}
use Rattle.dv_session.proofs.issuing.certified.Goals as goal

pub returns-clause-octets : goal.returns-clause-octets
returns-clause-octets c = λ d certificates of.
    (let key = c.args.key.now in
    let leaf = c.args.slot.leaf in
    let serial = c.serial-serial.result in
    let info = cert_info_of serial d in
    let signed = c.as_slice.ensures ∙ c.sign-signature.ensures.octets ∙ ap (λ (l : LeafState). signature_of key l.number c.to_sign-octets.result) c.into_leaf.ensures
    ∙ ap (signature_of key leaf.number) (c.to_sign-octets.ensures.octets d certificates of) in
    c.finish.ensures d certificates serial (c.to_sign-octets.ensures.room d certificates of) c.to_sign-octets.ensures.serial
    ∙ ap (λ (s : List ℕ). sealed certificates info s) signed
    ∙ ap (λ (n : ℕ). sealed_with key leaf.number certificates (cert_info_of n d)) c.serial-serial.ensures)
