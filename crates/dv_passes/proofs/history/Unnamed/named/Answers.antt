use Rattle.std.proofs.Common.{rules, ◌≡◌, ◌+◌, ◌-◌, ◌^◌, ◌<◌, ◌≤◌, ◌++◌, ◌∷◌, [], length, ℕ, true, false, List, refl, sym, ap, ◌∙◌, subst, arith, length-append}
use mathlib.Core.List.{IsPrefix}
use Rattle.atomic_table.specs.Table.{Me}
use Rattle.dv_passes.specs.declared.view.Event.{Event}
use Rattle.dv_passes.specs.declared.view.View.{View}
use Rattle.dv_passes.specs.History.{StandIn, all_shares, events_of}
use Rattle.dv_passes.specs.Known.{Rests, Known, known, known_of}
use Rattle.dv_passes.specs.Plays.{after_share, turn_at, longer, shorter, merged, met, taken_in, passed, shared, Looked, Added}
use Rattle.dv_passes.proofs.Moves.{keeps_turn}
use Rattle.dv_passes.proofs.history.Unnamed.named.Goals as goal

pub split_seat-pass-requires : goal.split_seat-pass-requires
split_seat-pass-requires g c =
    let i = c.self.invariant in
    (i.0, (let one = i.2 in omega arith), keeps_turn (g.K.Begins.begins c.self.inside.table.shared.key) _ c.self.inside.seat.me.0 (ap (λ (m : Me (Unit {0}) View). m.0.turn) i.1))
