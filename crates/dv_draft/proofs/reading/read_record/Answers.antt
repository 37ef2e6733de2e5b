use Rattle.std.proofs.Common.{◌≡◌, ◌∙◌, Err, length, ap, arith}
use Rattle.dv_asn1.specs.Lists.{lists_of}
use Rattle.dv_schema.specs.declared.refusal.Der.{Der}
use Rattle.dv_schema.specs.Reading.{Spot}
use Rattle.dv_draft.specs.declared.reading.ReadRecord.TheVariants.{Der as Refused}
use Rattle.dv_draft.specs.Spans.{view_spans}
use Rattle.dv_draft.specs.Views.{view_draft}
use Rattle.dv_draft.proofs.RecordSteps.{draft_fits, draft_length, draft_refused, list_refused, record_found}
use Rattle.dv_draft.proofs.Told.{same_error}
use Rattle.dv_draft.proofs.reading.read_record.Goals as goal

pub returns-in_err-certificates-clause-refused : goal.returns-in_err-certificates-clause-refused
returns-in_err-certificates-clause-refused c = λ d e.
    list_refused c.args.contents.now c.new-c.result c.in_err-certificates.field-0.0 d c.new-c.ensures c.in_err-certificates.ensures.told
    (same_error c.from_residual.result c.in_err-certificates.field-0.0 (Refused d) c.from_residual.ensures e)

pub returns-in-Err-clause-refused : goal.returns-in-Err-clause-refused
returns-in-Err-clause-refused c = λ d e.
    (let same : c.in-Err.refusal ≡ d = cc in
    draft_refused c.args.contents.now c.new-c.result c.read_certificates.new.c (lists_of c.in_ok-certificates.certificates.items) d c.new-c.ensures c.in_ok-certificates.ensures.told (c.in-Err.ensures ∙ ap (λ (x : Der). Err x) same))

pub to_draft-requires-clause-fits : goal.to_draft-requires-clause-fits
to_draft-requires-clause-fits c = draft_fits c.read_certificates.new.c (view_spans c.in-Ok.spans) c.fork-octets.ensures.octets c.fork-octets.ensures.levels c.in-Ok.ensures

pub to_draft-requires-clause-short : goal.to_draft-requires-clause-short
to_draft-requires-clause-short c =
    let n = draft_length c.read_certificates.new.c (view_spans c.in-Ok.spans) c.fork-octets.ensures.octets c.in-Ok.ensures in
    let start = ap (λ (p : Spot). length p.rest) c.new-c.ensures in
    omega (arith, n, start, c.in_ok-certificates.ensures.shorter, c.if-contents-gt-CONTENTS_LIMIT.false)

pub returns-clause-found : goal.returns-clause-found
returns-clause-found c =
    record_found c.args.contents.now c.new-c.result c.read_certificates.new.c (lists_of c.in_ok-certificates.certificates.items) (view_spans c.in-Ok.spans) (view_draft c.in_ok-draft.draft)
    c.new-c.ensures c.in_ok-certificates.ensures.told c.in-Ok.ensures c.in_ok-draft.ensures
