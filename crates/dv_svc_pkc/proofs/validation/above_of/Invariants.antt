use Rattle.std.proofs.Common.{◌≡◌, [], get_or, map, take}
use Rattle.dv_svc_pkc.specs.Slices.{octets_of}
use Rattle.dv_svc_pkc.proofs.validation.above_of.Given as goal

abbrev pub invariant-loop-position : goal.invariant-loop-position
invariant-loop-position l = octets_of l.above.items ≡ map (λ position. get_or (octets_of l.certificates) position []) (take l.position-index l.position-items)
