use Rattle.std.proofs.Common.{◌∙◌, sym}
use Rattle.dv_svc_document.proofs.DocumentLemmas.{bad_certificates, many_signers, no_octets}
use Rattle.dv_svc_document.proofs.document.Document.read.Goals as goal
use Rattle.dv_svc_document.proofs.document.Document.read.Goals.{then-is_none-via-then-is_none, then-is_none-via-else-is_none+then-signed-gt-SIGNER_LIMIT}

pub returns-then-is_none : goal.returns-then-is_none
returns-then-is_none c =
    elim c.then-is_none.branch [
      | then-is_none-via-then-is_none w ↦ no_octets c.args.message.now c.in-Some.signed c.in-Some.ensures w.if-is_none.ensures
      | then-is_none-via-else-is_none+then-signed-gt-SIGNER_LIMIT w ↦ many_signers c.args.message.now c.in-Some.signed c.in-Some.ensures w.if-signed-gt-SIGNER_LIMIT.true
    ]

pub returns-in-Err-TooMany : goal.returns-in-Err-TooMany
returns-in-Err-TooMany c = bad_certificates c.args.message.now c.in-Some.signed c.in-Some.ensures c.in-Err-TooMany.field-0 c.in-Err-TooMany.ensures.refused (λ e. (let no = sym e ∙ c.in-Err-TooMany.field-0-is in absurd cc))

pub returns-in-Err-Bad : goal.returns-in-Err-Bad
returns-in-Err-Bad c = bad_certificates c.args.message.now c.in-Some.signed c.in-Some.ensures c.in-Err-Bad.field-0 c.in-Err-Bad.ensures.refused (λ e. (let no = sym e ∙ c.in-Err-Bad.field-0-is in absurd cc))
