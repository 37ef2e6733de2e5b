use Rattle.std.proofs.Common.{◌+◌, ◌-◌}
use Rattle.dv_walks.specs.Search.{IsLayer}
use Rattle.dv_walks.proofs.layer.layer.Given as goal

abbrev pub invariant-loop-back : goal.invariant-loop-back
invariant-loop-back l = IsLayer l.graph l.usable l.back (l.place + (l.further - l.back)) l.layer
