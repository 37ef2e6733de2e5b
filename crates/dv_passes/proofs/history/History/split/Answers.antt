use Rattle.std.proofs.Common.{rules, ◌≡◌, ◌+◌, ◌-◌, ◌^◌, ◌<◌, ◌≤◌, ◌++◌, ◌∷◌, [], length, ℕ, true, false, List, refl, sym, ap, ◌∙◌, subst, arith}
use mathlib.Core.List.{IsPrefix}
use Rattle.dv_passes.specs.declared.view.Event.{Event}
use Rattle.dv_passes.specs.declared.view.View.{View}
use Rattle.dv_passes.specs.History.{StandIn, all_shares, events_of}
use Rattle.dv_passes.specs.Known.{Rests, Known, known, known_of}
use Rattle.dv_passes.specs.Plays.{after_share, turn_at, longer, shorter, merged, met, taken_in, passed, shared, Looked, Added}
use Rattle.dv_passes.proofs.Moves.{gives_share}
use Rattle.dv_passes.proofs.history.History.split.Goals as goal

pub split_seat-other-requires : goal.split_seat-other-requires
split_seat-other-requires g c =
    let i = c.pass.invariant in
    let b = c.self.invariant in
    let share : c.pass.inside.seat.me.0.share ≡ c.args.pass.share = ap (λ (k : Known). k.share) c.pass.view_is in
    (i.0 ∙ sym b.0, (let one = b.1 in omega arith), gives_share (g.K.Begins.begins c.self.inside.table.shared.key) _ c.pass.inside.seat.me.0 (omega (arith, c.requires)))
