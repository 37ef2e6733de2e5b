use Rattle.std.specs.Option.{option_copied}
use Rattle.dv_request.specs.RequestView.{view_request}
use Rattle.dv_answer.specs.Replies.{other_octets}
use Rattle.dv_answer.specs.Signed.{document_in}
use Rattle.dv_answer.proofs.ReplyLemmas.{no_request, request_checks, request_reply}
use Rattle.dv_answer.proofs.reply.reply_to_content.Goals as goal

pub returns-in-Ok-clause-reply : goal.returns-in-Ok-clause-reply
returns-in-Ok-clause-reply g c = λ octets message.
    (let found = c.in-Ok.ensures.found in
    request_reply octets c.args.moment c.args.server.now c.args.trust.now (document_in (option_copied c.args.signatures)) c.args.content.now message (view_request c.in-Ok.request) found.0 found.1 c.reply_to_request.result
    c.reply_to_request.ensures.answer c.reply_to_request.ensures.transaction)

pub returns-in-Ok-clause-steps : goal.returns-in-Ok-clause-steps
returns-in-Ok-clause-steps g c = λ octets message.
    (let found = c.in-Ok.ensures.found in
    request_checks octets c.args.moment c.args.server.now c.args.trust.now (document_in (option_copied c.args.signatures)) c.args.content.now message (view_request c.in-Ok.request) found.0 found.1 _ _ _
    c.reply_to_request.ensures.steps)

pub returns-in-Err-clause-reply : goal.returns-in-Err-clause-reply
returns-in-Err-clause-reply g c = λ octets message.
    other_octets (no_request octets c.args.content.now (document_in (option_copied c.args.signatures)) message c.in-Err.ensures.only) c.unread.ensures.1 c.unread.ensures.0
