use Rattle.std.proofs.Common.{◌≡◌, ◌++◌, drop}
use Rattle.dv_names.proofs.ArcTexts.{said}
use Rattle.dv_names.proofs.dotted.arcs_in.Given as goal

abbrev pub invariant-loop-octet : goal.invariant-loop-octet
invariant-loop-octet l = l.arcs.items ++ said l.number (drop l.octet-index l.text) ≡ said 0 l.text
