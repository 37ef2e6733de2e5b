use Rattle.std.proofs.Common.{◌≡◌, ◌∷◌, [], refl, sym, ap, ◌∙◌, List}
use Rattle.dv_register.specs.State.{State}
use Rattle.dv_passes.specs.Known.{Name}
use Rattle.dv_shared.specs.Events.{first_events}
use Rattle.dv_shared.proofs.Standing.{begins_with}
use Rattle.dv_shared.proofs.shared.Unshared.named.Goals as goal

pub invariant_of-new : goal.invariant_of-new
invariant_of-new g c =
    let r = c.self.inside.register in
    let is = ap (λ (b : Name (State g.row.V.Denot)). b.about) c.self.view_is in
    let log = c.named-history.ensures.turn ∙ (sym c.requires.start ∙ ap (λ (s : State g.row.V.Denot). first_events s.list s.shut) (sym is)) in
    let origin = c.requires.origin ∙ ap (λ (s : State g.row.V.Denot). s ∷ []) (sym is) in
    rw (log, origin) (begins_with g.V.Station.tells g.V.Station.content g.V.Station.counts g.P.Releases.allows r c.self.invariant.1 r.shut refl)
