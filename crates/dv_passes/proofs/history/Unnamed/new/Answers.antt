use Rattle.std.proofs.Common.{rules, ◌≡◌, ◌+◌, ◌-◌, ◌^◌, ◌<◌, ◌≤◌, ◌++◌, ◌∷◌, [], length, ℕ, true, false, List, refl, sym, ap, ◌∙◌, subst, arith}
use mathlib.Core.List.{IsPrefix}
use Rattle.dv_passes.specs.declared.view.Event.{Event}
use Rattle.dv_passes.specs.declared.view.View.{View}
use Rattle.dv_passes.specs.History.{StandIn, all_shares, events_of}
use Rattle.dv_passes.specs.Known.{Rests, Known, known, known_of}
use Rattle.dv_passes.specs.Plays.{after_share, turn_at, longer, shorter, merged, met, taken_in, passed, shared, Looked, Added}
use Rattle.dv_passes.specs.History.{Keeps, first_view}
use Rattle.atomic_table.specs.Table.{opening}
use Rattle.dv_passes.proofs.Moves.{begins}
use Rattle.dv_passes.proofs.history.Unnamed.new.Goals as goal

pub of_words-requires : goal.of_words-requires
of_words-requires g c =
    let start = g.K.Begins.begins c.args.about.now in
    subst (λ (n : ℕ). Keeps start (opening (n ∷ []) [] (first_view start))) (sym c.requires) (begins start)
