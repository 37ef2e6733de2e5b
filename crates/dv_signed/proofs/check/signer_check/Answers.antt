use Rattle.std.proofs.Common.{◌≡◌, ◌∙◌, ℕ, false, Some, List, refl, sym, ap}
use Rattle.std.specs.Prelude.{IsTrue}
use Rattle.std.specs.Option.{option_copied}
use Rattle.dv_schema.specs.Schema.{ValueOf}
use Rattle.dv_cms.specs.Types.{signer_info}
use Rattle.dv_signed.specs.Check.{Signed, early_fault}
use Rattle.dv_signed.specs.SignerView.{view_signer}
use Rattle.dv_signed.proofs.check.signer_check.Goals as goal

pub returns-else-has_signed-clause-fault : goal.returns-else-has_signed-clause-fault
returns-else-has_signed-clause-fault g c = λ content is.
    (let s : ValueOf signer_info = view_signer c.args.signer.now in
    let with : List ℕ → Signed = λ octets. record { type = c.args.signed.now.content_type.now; content = octets; certificate = c.args.certificate.now; key = option_copied c.args.key } in
    let there : option_copied c.args.signed.now.content ≡ Some c.unwrap-content.result.now = ap option_copied c.unwrap-content.ensures in
    let same : c.unwrap-content.result.now ≡ content = cc in (
      ap (λ (o : List ℕ). early_fault s (with o)) (sym same) ∙ sym (c.early_fault.ensures (option_copied c.args.key)) ∙ c.in_default.is,
      λ signs. (let yes : IsTrue c.has_signed.result = (c.has_signed.ensures.signs (with content) (sym same) refl).1 signs in
          let no : c.has_signed.result ≡ false = c.if-has_signed.false in absurd cc),
    ))
