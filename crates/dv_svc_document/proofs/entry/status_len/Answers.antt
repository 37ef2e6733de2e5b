use Rattle.std.proofs.Common.{ap, arith, length}
use Rattle.dv_schema.specs.Schema.{spelling}
use Rattle.dv_status.specs.Types.{status_info}
use Rattle.dv_svc_document.proofs.EntryLemmas.{token_few}
use Rattle.dv_svc_document.proofs.entry.status_len.Goals as goal

pub returns-clause-few : goal.returns-clause-few
returns-clause-few c = omega (arith, token_few c.args.bit, ap (λ v. length (spelling (status_info 162) v)) c.status_of.ensures, c.encoded_len.ensures)
