use Rattle.std.proofs.Common.{rules, ◌≡◌, ◌+◌, ◌-◌, ◌^◌, ◌<◌, ◌≤◌, ◌++◌, ◌∷◌, [], length, ℕ, true, false, List, refl, sym, ap, ◌∙◌, subst, arith}
use mathlib.Core.List.{IsPrefix}
use Rattle.dv_passes.specs.declared.view.Event.{Event}
use Rattle.dv_passes.specs.declared.view.View.{View}
use Rattle.dv_passes.specs.History.{StandIn, all_shares, events_of}
use Rattle.dv_passes.specs.Known.{Rests, Known, known, known_of}
use Rattle.dv_passes.specs.Plays.{after_share, turn_at, longer, shorter, merged, met, taken_in, passed, shared, Looked, Added}
use Rattle.dv_passes.proofs.Moves.{meets, checks_as}
use Rattle.dv_passes.proofs.Results.{met_is}
use Rattle.dv_passes.proofs.history.History.join.Goals as goal

pub join_seat-requires : goal.join_seat-requires
join_seat-requires g c =
    let i = c.one.invariant in
    let o = c.other.invariant in
    let b = c.self.invariant in
    (i.0 ∙ sym b.0, o.0 ∙ sym b.0, o.1, (let one = b.1 in omega arith), meets (g.K.Begins.begins c.self.inside.table.shared.key) _ c.one.inside.seat.me.0 _ c.other.inside.seat.me.0 o.2.turn)

pub load-requires : goal.load-requires
load-requires g c =
    let i = c.one.invariant in
    let b = c.self.invariant in
    (c.join_seat.ensures.0 ∙ i.0 ∙ sym b.0, (let one = b.1 in omega arith), checks_as (g.K.Begins.begins c.self.inside.table.shared.key) g.J.Naming.start _ _ c.join_seat.new.seat.me b.2)

pub invariant_of-result : goal.invariant_of-result
invariant_of-result g c =
    let i = c.one.invariant in
    let j = c.join_seat.ensures in
    let l = c.load.ensures in
    let t = met_is g.J.Naming.start c.one.inside.seat.me.0 c.other.inside.seat.me.0 _ _ i.2 (ap (λ m. m.0) j.2) l.2.1 in
    (l.0 ∙ j.0 ∙ i.0, l.2.0 ∙ ap (λ m. m.1) j.2 ∙ i.1, t.rests)

pub returns : goal.returns
returns g c =
    let i = c.one.invariant in
    let j = c.join_seat.ensures in
    let l = c.load.ensures in
    let t = met_is g.J.Naming.start c.one.inside.seat.me.0 c.other.inside.seat.me.0 _ _ i.2 (ap (λ m. m.0) j.2) l.2.1 in
    let seen = ap (λ (k : Known). k.seen) t.is in
    rw (← c.one.view_is, ← c.other.view_is) record { is = t.is; begins = rw seen (t.one, t.other) }
