use Rattle.std.proofs.Common.{◌≡◌, ℕ, List, ap, arith, rules}
use Rattle.std.specs.Borrow.{Bor}
use Rattle.std.specs.Option.{option_copied}
use Rattle.std.specs.Prelude.{Option, option_map}
use Rattle.dv_request.specs.Request.{request_data_type}
use Rattle.dv_signed.specs.Certificates.{certificates_of}
use Rattle.dv_signed.specs.SignedView.{view_signed}
use Rattle.dv_svc_document.proofs.DocumentLemmas.{no_bad}
use Rattle.dv_answer.proofs.SignedLemmas.{content_short, is_there}
use Rattle.dv_answer.proofs.signed.Signatures.of.Goals as goal

pub invariant_of-result : goal.invariant_of-result
invariant_of-result c =
    let v = view_signed c.args.signed in
    let type : c.args.signed.content_type.now ≡ request_data_type = search rules in
    let holds = is_there c.args.signed.content c.in-Some.content c.in-Some.is in
    record {
      held = record {
        readable = record { content = holds.0; signers = omega (arith, c.args.signed.signers_counted); certificates = c.in-Ok.ensures.read };
        of_type = type;
        holds = holds.1;
      };
      bagged = c.in-Ok.ensures.bag;
      short = omega (arith, content_short v c.in-Some.content.now holds.1, c.args.signed.short);
    }

pub returns-in-Err-Bad : goal.returns-in-Err-Bad
returns-in-Err-Bad c = λ inside is.
    (let bad = rw c.in-Err-Bad.field-0-is at c.in-Err-Bad.ensures.refused in
    no_bad (certificates_of (view_signed c.args.signed)) c.in-Err-Bad.field-0-0 c.in-Err-Bad.field-0-1 bad.1 is.readable.certificates.decoded)
