use Rattle.std.proofs.Common.{rules, ◌≡◌, ◌+◌, ◌-◌, ◌^◌, ◌<◌, ◌≤◌, ◌++◌, ◌∷◌, [], length, ℕ, true, false, List, refl, sym, ap, ◌∙◌, subst, arith, length-append}
use mathlib.Core.List.{IsPrefix}
use Rattle.atomic_table.specs.Table.{Me}
use Rattle.dv_passes.specs.declared.view.Event.{Event}
use Rattle.dv_passes.specs.declared.view.View.{View}
use Rattle.dv_passes.specs.History.{StandIn, all_shares, events_of}
use Rattle.dv_passes.specs.Known.{Rests, Known, known, known_of}
use Rattle.dv_passes.specs.Plays.{after_share, turn_at, longer, shorter, merged, met, taken_in, passed, shared, Looked, Added}
use Rattle.dv_passes.proofs.Moves.{takes_in, looks_as, keeps_turn}
use Rattle.dv_passes.proofs.Results.{Shown, shown}
use Rattle.dv_passes.proofs.history.Turn.show.Goals as goal

pub join_seat-requires : goal.join_seat-requires
join_seat-requires g c =
    let i = c.self.invariant in
    let p = c.pass.invariant in
    let b = c.history.invariant in
    (i.0 ∙ sym b.0, p.0 ∙ sym b.0, p.1, (let one = b.1 in omega arith), takes_in (g.K.Begins.begins c.history.inside.table.shared.key) _ c.self.inside.seat.me.0 _ c.pass.inside.seat.me.0 (ap (λ (m : Me (Unit {0}) View). m.0) i.1) p.2.turn)

pub load-requires : goal.load-requires
load-requires g c =
    let i = c.self.invariant in
    let b = c.history.invariant in
    (c.join_seat.ensures.0 ∙ i.0 ∙ sym b.0, (let one = b.1 in omega arith), looks_as (g.K.Begins.begins c.history.inside.table.shared.key) g.J.Naming.start _ _ c.join_seat.new.seat.me b.2)

pub split_seat-seat-requires : goal.split_seat-seat-requires
split_seat-seat-requires g c =
    let i = c.self.invariant in
    let b = c.history.invariant in
    let j = c.join_seat.ensures in
    let l = c.load.ensures in
    let turn : c.load.new.seat.me.0.turn ≡ true = ap (λ (v : View). v.turn) l.2.1.is ∙ ap (λ (m : Me (Unit {0}) View). m.0.turn) j.2 in
    (l.0 ∙ j.0 ∙ i.0 ∙ sym b.0, (let one = b.1 in omega arith), keeps_turn (g.K.Begins.begins c.history.inside.table.shared.key) _ c.load.new.seat.me.0 turn)

pub invariant_of-result : goal.invariant_of-result
invariant_of-result g c =
    let v = c.self.inside.seat.me.0 in
    let w = c.pass.inside.seat.me.0 in
    let j = c.join_seat.ensures in
    let l = c.load.ensures in
    let s = c.split_seat-seat.ensures in
    let told = shown g.J.Naming.start v w c.join_seat.new.seat.me.0 _ c.load.new.seat.me.0 c.pass.invariant.2 (ap (λ (m : Me (Unit {0}) View). m.0) j.2) l.2.1 in
    (s.3 ∙ l.0 ∙ j.0 ∙ c.self.invariant.0, ap (λ (m : Me (Unit {0}) View). m.1) s.4, subst (λ (m : Me (Unit {0}) View). Rests g.J.Naming.start false m.0) (sym s.4) told.rests)
