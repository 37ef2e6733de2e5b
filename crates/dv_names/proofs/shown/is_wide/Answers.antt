use Rattle.std.proofs.Common.{◌∙◌, not, sym, ap}
use Rattle.std.proofs.lemmas.Bool.{eqb-true}
use Rattle.dv_names.specs.Arcs.{are_narrow}
use Rattle.dv_names.proofs.NumberLemmas.{none_left}
use Rattle.dv_names.proofs.shown.is_wide.Goals as goal

pub returns : goal.returns
returns c =
    let none = none_left c.loop-rest.rest.now (eqb-true _ _ (sym c.loop-rest-test.ensures)) in
    ap not (sym (c.loop-rest.invariant.narrow ∙ ap are_narrow none))
