use Rattle.std.proofs.Common.{◌≡◌, ◌++◌, List, ℕ, ap, sym, subst}
use Rattle.std.specs.Prelude.{IfOk}
use Rattle.dv_schema.specs.Tlv.{tlv}
use Rattle.dv_cert.specs.Sealed.{issuer_and_serial, signer_of}
use Rattle.dv_cert.proofs.signer.signer_of_own.Goals as goal

pub returns : goal.returns
unfolding signer_of
returns c =
    let e : signer_of c.args.own.now ≡ c.in-Ok.certificate.issuer.raw.now ++ tlv 2 c.in-Ok.certificate.serial.now = ap issuer_and_serial c.in-Ok.ensures.exact in
    subst (λ (s : List ℕ). IfOk c.issuer_and_serial.result (λ v. v.items ≡ s)) (sym e) c.issuer_and_serial.ensures
