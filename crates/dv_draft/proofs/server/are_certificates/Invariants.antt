use Rattle.std.proofs.Common.{ℕ, ◌<◌, List, get_or}
use Rattle.dv_asn1.specs.Lists.{lists_of}
use Rattle.dv_draft.specs.Records.{IsCertificate}
use Rattle.dv_draft.proofs.server.are_certificates.Given as goal

abbrev pub invariant-loop-certificate : goal.invariant-loop-certificate
invariant-loop-certificate l = (k : ℕ) (d : List ℕ) → k < l.certificate-index → IsCertificate (get_or (lists_of l.certificates) k d)
