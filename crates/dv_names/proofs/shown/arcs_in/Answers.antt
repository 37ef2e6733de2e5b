use Rattle.std.proofs.Common.{◌∙◌, ℕ, List, ◌++◌, sym, ap}
use Rattle.std.proofs.lemmas.Bool.{eqb-true}
use Rattle.std.proofs.lemmas.List.{append-nil}
use Rattle.dv_names.proofs.NumberLemmas.{none_left}
use Rattle.dv_names.proofs.shown.arcs_in.Goals as goal

pub returns : goal.returns
returns c =
    let none = none_left c.loop-rest.rest.now (eqb-true _ _ (sym c.loop-rest-test.ensures)) in
    sym (append-nil c.loop-rest.arcs.items) ∙ ap (λ (l : List ℕ). c.loop-rest.arcs.items ++ l) (sym none) ∙ c.loop-rest.invariant.arcs
