-- What a pick leaves is an image.
use Rattle.std.proofs.Common.{take, subst, sym}
use Rattle.std.proofs.lemmas.Result.{IfOk-weaker}
use Rattle.dv_outside_mem.specs.Image.{crash_moment}
use Rattle.dv_outside_mem.specs.Replay.{IsImage, start, after}
use Rattle.dv_outside_mem.proofs.ImageLemmas.{picked_is_image}
use Rattle.dv_outside_mem.proofs.journal.Journal.image.Goals as goal

pub returns-clause-may : goal.returns-clause-may
returns-clause-may c =
    let j = c.args.self.now in
    let log = take (crash_moment j.log.items c.args.call) j.log.items in
    IfOk-weaker c.image.result _ _ (λ octets is. subst (IsImage (after j.tape.items (start j.base.items) log)) (sym is) (picked_is_image c.args.pick j.tape.items j.base.items log))
    (rw (c.deref.ensures.value, c.deref-2.ensures.value, c.deref-3.ensures.value) at c.image.ensures)
