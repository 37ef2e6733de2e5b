use Rattle.std.proofs.Common.{ap, sym, ◌∙◌, refl, Ok, Err}
use Rattle.dv_schema.specs.declared.refusal.Der.{Der}
use Rattle.dv_schema.specs.Schema.{ValueOf}
use Rattle.dv_schema.specs.Reading.{Spot}
use Rattle.dv_names.specs.Types.{digest_info}
use Rattle.dv_names.specs.Views.{view_digest}
use Rattle.dv_draft.specs.Types.{imprint, is_known}
use Rattle.dv_draft.proofs.Suches.{read_there, such_passes, such_fails, such_unread}
use Rattle.dv_draft.proofs.imprint_span.ImprintSpan.read.Goals as goal

pub returns-in-Err : goal.returns-in-Err
returns-in-Err c =
    let e = read_there digest_info c.fork-next.result c.args.c.now (Err c.in-Err.refusal) c.fork-next.ensures.same c.in-Err.ensures.0 in
    (such_unread digest_info is_known c.args.c.now c.in-Err.refusal e, refl)

pub returns-in-None : goal.returns-in-None
returns-in-None c =
    let x : ValueOf digest_info × Spot = (view_digest c.in-Ok.info, c.read.new.c) in
    let e = read_there digest_info c.fork-next.result c.args.c.now (Ok x) c.fork-next.ensures.same c.in-Ok.ensures in
    (such_fails digest_info is_known c.args.c.now x refl c.fork-next.ensures.octets c.fork-next.ensures.levels e c.in-None.ensures ∙ ap (λ (d : Der). Err d) (sym c.refusal.ensures), refl)

pub returns-in-Some : goal.returns-in-Some
returns-in-Some c =
    let x : ValueOf digest_info × Spot = (view_digest c.in-Ok.info, c.read.new.c) in
    let e = read_there digest_info c.fork-next.result c.args.c.now (Ok x) c.fork-next.ensures.same c.in-Ok.ensures in
    such_passes digest_info is_known c.args.c.now x refl c.fork-next.ensures.octets c.fork-next.ensures.levels e c.in-Some.ensures.0
    ∙ ap (λ (v : ValueOf imprint). Ok (v, c.read.new.c)) (sym c.in-Some.ensures.1)
