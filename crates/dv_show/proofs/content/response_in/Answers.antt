use Rattle.std.proofs.Common.{refl}
use Rattle.dv_show.proofs.ContentLemmas.{is_notice, none_read}
use Rattle.dv_show.proofs.content.response_in.Goals as goal

pub returns-in-Ok-Refused-clause-found : goal.returns-in-Ok-Refused-clause-found
returns-in-Ok-Refused-clause-found c =
    (refl, is_notice c.in-Ok-Refused.field-0 c.args.octets.now c.in-Ok-Refused.ensures c.in-Ok-Refused.notice c.least_failure.result c.in-Ok-Refused.field-0-is c.least_failure.ensures)

pub returns-in-Err-clause-only : goal.returns-in-Err-clause-only
returns-in-Err-clause-only c = λ value kind is. absurd (none_read c.in-Err.refusal c.args.octets.now c.in-Err.ensures value c.args.signed kind is)
