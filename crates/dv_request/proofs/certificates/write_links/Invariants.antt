use Rattle.std.proofs.Common.{take}
use Rattle.std.specs.List.{flat_map}
use Rattle.dv_asn1.specs.Lists.{lists_of}
use Rattle.dv_asn1.specs.Writing.{Writes}
use Rattle.dv_request.specs.Made.{retagged}
use Rattle.dv_request.proofs.certificates.write_links.Given as goal

abbrev pub invariant-loop-certificate : goal.invariant-loop-certificate
invariant-loop-certificate l = Writes l.fn.out l.out (flat_map (retagged 160) (lists_of (take l.certificate-index l.chain)))
