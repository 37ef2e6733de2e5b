use Rattle.dv_answer.proofs.OneReply.{same_reply}
use Rattle.dv_answer.proofs.reply.one_reply.Goals as goal

pub returns : goal.returns
returns c = same_reply
