use Rattle.std.proofs.Common.{take}
use Rattle.std.specs.List.{flat_map}
use Rattle.dv_asn1.specs.Writing.{Writes}
use Rattle.dv_request.specs.Made.{retagged}
use Rattle.dv_svc_document.proofs.entry.write_certificates.Given as goal

abbrev pub invariant-loop-octets : goal.invariant-loop-octets
invariant-loop-octets l = Writes l.fn.out l.out (flat_map (λ s. retagged 160 s.now) (take l.octets-index l.certificates))
