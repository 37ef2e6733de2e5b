use Rattle.std.proofs.Common.{sym}
use Rattle.dv_svc_document.proofs.DocumentLemmas.{its_document, no_content, no_info, other_type}
use Rattle.dv_svc_document.proofs.document.signed_data.Goals as goal

pub returns-in_default : goal.returns-in_default
returns-in_default c = no_info c.decode.result c.args.message.now c.decode.ensures c.in_default.not-Ok

pub returns-then-not-same : goal.returns-then-not-same
returns-then-not-same c = other_type c.in-Ok.info c.args.message.now c.in-Ok.ensures (sym c.if-not-same.ensures)

pub returns-in-Err : goal.returns-in-Err
returns-in-Err c = no_content c.in-Ok.info c.args.message.now c.in-Err.field-0 c.in-Ok.ensures c.in-Err.ensures

pub returns-in-Ok-decode : goal.returns-in-Ok-decode
returns-in-Ok-decode c = its_document c.in-Ok.info c.args.message.now c.in-Ok-decode.signed c.in-Ok.ensures (sym c.if-not-same.ensures) c.in-Ok-decode.ensures
