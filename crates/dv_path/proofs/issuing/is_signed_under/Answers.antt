use Rattle.std.proofs.Common.{◌≡◌, ◌∙◌, ◌∷◌, ℕ, List, true, ap, subst, sym}
use Rattle.dv_lms.specs.Verifies.{Verifies}
use Rattle.dv_x509.specs.Uses.{is_hss}
use Rattle.dv_x509.specs.View.{view_certificate}
use Rattle.dv_path.proofs.Issued.{verified}
use Rattle.dv_path.proofs.issuing.is_signed_under.Goals as goal

pub returns-clause-signed : goal.returns-clause-signed
returns-clause-signed g c =
    let v = view_certificate c.args.certificate.now in
    let key : List ℕ = c.args.key.now in
    let signature : List ℕ = c.args.certificate.now.signature.1.now in
    let bits : v.1.1.0 ≡ 0 ∷ signature = ap (λ (unused : ℕ). unused ∷ signature) c.if-unused-ne0.false in
    let algorithm : is_hss v.1.0 ≡ true = sym c.is_hss.ensures ∙ c.if-not-is_hss.false in
    let signed = c.args.certificate.now.signed in (
      λ t. record { algorithm = algorithm; signature = signature; bits = bits; verifies = subst (λ (tbs : List ℕ). Verifies key tbs signature) signed (c.verify.ensures.verifies.0 t) },
      λ h. c.verify.ensures.verifies.1 (subst (λ (tbs : List ℕ). Verifies key tbs signature) (sym signed) (verified key v signature bits h)),
    )
