use Rattle.std.proofs.Common.{take}
use Rattle.std.specs.List.{flat_map}
use Rattle.dv_asn1.specs.Writing.{Writes}
use Rattle.dv_svc_pkc.proofs.entry.write_all.Given as goal

abbrev pub invariant-loop-octets : goal.invariant-loop-octets
invariant-loop-octets l = Writes l.fn.out l.out (flat_map (λ s. s.now) (take l.octets-index l.slices))
