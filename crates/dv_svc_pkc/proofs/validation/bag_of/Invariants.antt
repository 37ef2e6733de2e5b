use Rattle.std.proofs.Common.{◌≡◌, map, take}
use Rattle.dv_path.specs.Members.{member_of}
use Rattle.dv_svc_pkc.specs.Slices.{octets_of}
use Rattle.dv_svc_pkc.proofs.validation.bag_of.Given as goal

abbrev pub invariant-loop-octets : goal.invariant-loop-octets
invariant-loop-octets l = l.bag ≡ map (member_of 160) (octets_of (take l.octets-index l.certificates))
