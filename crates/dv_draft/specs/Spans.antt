-- Drafts that were read and not yet copied, as values of their schema.
use Rattle.std.specs.Prelude.{option_map}
use Rattle.std.specs.Option.{option_copied}
use Rattle.dv_schema.specs.Schema.{ValueOf}
use Rattle.dv_time.specs.Views.{view_moment}
use Rattle.dv_draft.specs.declared.imprint_span.ImprintSpan.{ImprintSpan}
use Rattle.dv_draft.specs.declared.spans.DraftSpans.{DraftSpans}
use Rattle.dv_draft.specs.Parts.{imprint_of, view_status}
use Rattle.dv_draft.specs.Types.{draft, imprint}

-- an imprint
abbrev pub view_imprint_span : ImprintSpan → ValueOf imprint
view_imprint_span i = imprint_of i.kind i.with_null i.digest.now

-- a draft: its parts
abbrev pub view_spans : DraftSpans → ValueOf draft
view_spans d = (
  d.info.now,
  (
    view_imprint_span d.imprint,
    (
      view_moment d.time,
      (option_map view_status d.status, (option_copied d.policy, (option_copied d.req_signature, (option_copied d.certs, tt)))),
    ),
  ),
)
