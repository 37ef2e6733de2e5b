use Rattle.dv_answer.proofs.ReplyLemmas.{no_info, unread_reply}
use Rattle.dv_answer.proofs.reply.answer.Goals as goal

pub returns-in-Ok-clause-reply : goal.returns-in-Ok-clause-reply
returns-in-Ok-clause-reply g c = c.reply_to_message.ensures.reply c.args.octets.now c.in-Ok.ensures.found

pub returns-in-Ok-clause-steps : goal.returns-in-Ok-clause-steps
returns-in-Ok-clause-steps g c = c.reply_to_message.ensures.steps c.args.octets.now c.in-Ok.ensures.found

pub returns-in-Err-clause-reply : goal.returns-in-Err-clause-reply
returns-in-Err-clause-reply g c =
    unread_reply c.args.octets.now c.args.moment c.args.server.now c.args.trust.now c.unread.result (no_info c.args.octets.now c.in-Err.ensures.only) c.unread.ensures.0 c.unread.ensures.1
