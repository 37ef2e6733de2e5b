use Rattle.std.proofs.Common.{◌≡◌, Ok, refl, subst}
use Rattle.dv_schema.specs.Reading.{Spot, Item, item_at, is_tag_of}
use Rattle.dv_time.specs.Views.{view_moment}
use Rattle.dv_draft.specs.Spans.{view_imprint_span}
use Rattle.dv_draft.proofs.Copies.{draft_fault}
use Rattle.dv_draft.proofs.spans.DraftSpans.read.Goals as goal

pub returns-in-Err-read_optional_status : goal.returns-in-Err-read_optional_status
returns-in-Err-read_optional_status c =
    let i : Item = record { tag = 48; inside = c.in_ok-inside.inside; after = c.enter.new.self } in
    let item : item_at (is_tag_of 48) c.args.c.now ≡ Ok i = subst (λ (p : Spot). item_at (is_tag_of 48) p ≡ Ok i) c.fork-next.ensures.same c.in_ok-inside.ensures.item in (
      draft_fault c.args.c.now c.in_ok-inside.inside c.read_information.new.c c.read.new.c c.read_generalized.new.c c.enter.new.self c.in_ok-info.info.now (view_imprint_span c.in-Ok.imprint) (view_moment c.in_ok-time.time)
          c.in-Err-read_optional_status.refusal item c.in_ok-info.ensures c.in-Ok.ensures c.in_ok-time.ensures c.in-Err-read_optional_status.ensures.0,
      refl,
    )
