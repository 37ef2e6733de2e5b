use Rattle.std.proofs.Common.{◌≡◌, take}
use Rattle.std.specs.String.{string_bytes}
use Rattle.dv_names.specs.Arcs.{dotted}
use Rattle.dv_names.proofs.shown.dotted.Given as goal

abbrev pub invariant-loop-at : goal.invariant-loop-at
invariant-loop-at l = string_bytes l.text ≡ dotted (take l.at l.arcs)
