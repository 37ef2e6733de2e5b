use Rattle.std.proofs.Common.{◌≡◌, ◌∙◌, true, Some, refl, sym}
use Rattle.dv_names.specs.Digest.{kind_of}
use Rattle.dv_names.specs.Views.{view_algorithm}
use Rattle.dv_x509.specs.Uses.{is_hss}
use Rattle.dv_signed.proofs.check.early_fault.Goals as goal

pub returns-in-Some : goal.returns-in-Some
returns-in-Some c = λ key.
    (let hss : is_hss (view_algorithm c.args.signer.now.signature_alg) ≡ true = sym c.is_hss.ensures ∙ c.if-not-is_hss.false in
    let known : kind_of (view_algorithm c.args.signer.now.digest_alg) ≡ Some c.in-Some.kind = sym c.digest_kind.ensures ∙ c.in-Some.is in
    c.fault_with.ensures key ∙ sym (rw (hss, known) refl))
