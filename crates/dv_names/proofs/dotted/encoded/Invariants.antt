use Rattle.std.proofs.Common.{◌≡◌, ◌++◌, take, drop, get_or, ◌+◌, ◌*◌}
use Rattle.std.specs.List.{flat_map}
use Rattle.dv_names.specs.Arcs.{number_octets}
use Rattle.dv_names.proofs.dotted.encoded.Given as goal

abbrev pub invariant-loop-arc : goal.invariant-loop-arc
invariant-loop-arc l = l.octets.items ≡ number_octets (get_or l.arcs 0 0 * 40 + get_or l.arcs 1 0) ++ flat_map number_octets (take l.arc-index (drop 2 l.arcs))
