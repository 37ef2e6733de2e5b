use Rattle.std.proofs.Common.{◌≡◌, ◌∙◌, List, ℕ, Some, false, ap, sym}
use Rattle.dv_x509.specs.Uses.{has_unknown_critical}
use Rattle.dv_x509.specs.View.{view_certificate}
use Rattle.std.specs.Option.{option_copied}
use Rattle.dv_path.specs.Issuing.{issuer_of}
use Rattle.dv_path.proofs.Issued.{signed_by}
use Rattle.dv_path.proofs.SameOctets.{is_same, same_is}
use Rattle.dv_path.proofs.issuing.is_issued_by.Goals as goal

pub returns-then-not-same-clause-issued : goal.returns-then-not-same-clause-issued
returns-then-not-same-clause-issued g c =
    let issuer : List ℕ = c.args.certificate.now.issuer.raw.now in
    let subject : List ℕ = c.args.subject.now in
    (λ t. absurd cc, λ h. sym (c.if-not-same.true) ∙ c.same.ensures ∙ is_same issuer subject h.named)

pub returns-in-Some-clause-issued : goal.returns-in-Some-clause-issued
returns-in-Some-clause-issued g c =
    let v = view_certificate c.args.certificate.now in
    let issuer : List ℕ = c.args.certificate.now.issuer.raw.now in
    let subject : List ℕ = c.args.subject.now in
    let key : List ℕ = c.in-Some.key.now in
    let named : issuer_of v ≡ subject = same_is issuer subject (sym c.same.ensures ∙ c.if-not-same.false) in
    let has_key : option_copied c.args.key ≡ Some key = ap option_copied c.in-Some.is in
    let known : has_unknown_critical v ≡ false = sym c.unknown_critical.ensures ∙ c.if-unknown_critical.false in
    let valid = c.is_valid_at.ensures.0 c.if-not-is_valid_at.false in (
      λ t. record { named = named; key = key; has_key = has_key; signed = c.is_signed_under.ensures.signed.0 t; valid = valid; known = known },
      λ h. c.is_signed_under.ensures.signed.1 (signed_by (record { subject = subject; key = option_copied c.args.key }) key v c.args.when has_key h),
    )
