use Rattle.std.proofs.Common.{◌≡◌, List, ℕ}
use Rattle.dv_answer.proofs.MessageLemmas.{signed_alone}
use Rattle.dv_answer.proofs.ReplyLemmas.{read_of, unread_reply}
use Rattle.dv_answer.proofs.reply.reply_to_signed.Goals as goal

pub returns-in-None-clause-reply : goal.returns-in-None-clause-reply
returns-in-None-clause-reply g c = λ octets info.
    (let none = rw c.in-None.is at (c.in_ok-read.ensures octets info) in
    unread_reply octets c.args.moment c.args.server.now c.args.trust.now c.unread.result (signed_alone octets c.args.content.now info none) c.unread.ensures.0 c.unread.ensures.1)

pub returns-in-Some-clause-reply : goal.returns-in-Some-clause-reply
returns-in-Some-clause-reply g c = λ octets info. c.reply_to_content.ensures.reply octets (read_of octets c.in_ok-read.field-0 c.in-Some.signatures c.in-Some.is (c.in_ok-read.ensures octets info))

pub returns-in-Some-clause-steps : goal.returns-in-Some-clause-steps
returns-in-Some-clause-steps g c = λ octets info. c.reply_to_content.ensures.steps octets (read_of octets c.in_ok-read.field-0 c.in-Some.signatures c.in-Some.is (c.in_ok-read.ensures octets info))
