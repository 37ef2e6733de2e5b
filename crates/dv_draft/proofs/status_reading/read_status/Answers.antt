use Rattle.std.proofs.Common.{ap, sym, ◌∙◌, refl, Ok, Err}
use Rattle.dv_schema.specs.declared.refusal.Der.{Der}
use Rattle.dv_schema.specs.Schema.{ValueOf}
use Rattle.dv_schema.specs.Reading.{Spot}
use Rattle.dv_status.specs.Types.{status_info}
use Rattle.dv_status.specs.Views.{view_status as view_info}
use Rattle.dv_draft.specs.Types.{plain_status, is_plain}
use Rattle.dv_draft.proofs.Suches.{read_there, such_passes, such_fails, such_unread}
use Rattle.dv_draft.proofs.status_reading.read_status.Goals as goal

pub returns-in-Err : goal.returns-in-Err
returns-in-Err c =
    let e = read_there (status_info 160) c.fork-next.result c.args.c.now (Err c.in-Err.refusal) c.fork-next.ensures.same c.in-Err.ensures.0 in
    (such_unread (status_info 160) is_plain c.args.c.now c.in-Err.refusal e, refl)

pub returns-in-None : goal.returns-in-None
returns-in-None c =
    let x : ValueOf (status_info 160) × Spot = (view_info c.in-Ok.info, c.read_under.new.c) in
    let e = read_there (status_info 160) c.fork-next.result c.args.c.now (Ok x) c.fork-next.ensures.same c.in-Ok.ensures in
    (such_fails (status_info 160) is_plain c.args.c.now x refl c.fork-next.ensures.octets c.fork-next.ensures.levels e c.in-None.ensures ∙ ap (λ (d : Der). Err d) (sym c.refusal.ensures), refl)

pub returns-in-Some : goal.returns-in-Some
returns-in-Some c =
    let x : ValueOf (status_info 160) × Spot = (view_info c.in-Ok.info, c.read_under.new.c) in
    let e = read_there (status_info 160) c.fork-next.result c.args.c.now (Ok x) c.fork-next.ensures.same c.in-Ok.ensures in
    such_passes (status_info 160) is_plain c.args.c.now x refl c.fork-next.ensures.octets c.fork-next.ensures.levels e c.in-Some.ensures.0
    ∙ ap (λ (v : ValueOf plain_status). Ok (v, c.read_under.new.c)) (sym c.in-Some.ensures.1)
