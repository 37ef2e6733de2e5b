use Rattle.std.proofs.Common.{◌≡◌, drop}
use Rattle.dv_asn1.specs.Lists.{lists_of}
use Rattle.dv_cert.specs.Sealed.{ascending, inserted_all}
use Rattle.dv_cert.specs.Slices.{octets_of}
use Rattle.dv_cert.proofs.order.ascending.Given as goal

abbrev pub invariant-loop-certificate : goal.invariant-loop-certificate
invariant-loop-certificate l = inserted_all (octets_of l.sorted.items) (drop l.certificate-index (lists_of l.certificates)) ≡ ascending (lists_of l.certificates)
