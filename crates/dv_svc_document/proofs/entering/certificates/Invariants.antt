use Rattle.std.proofs.Common.{◌≡◌, [], get_or, map, take}
use Rattle.dv_path.specs.Rows.{octets_of}
use Rattle.dv_signed.specs.Certificates.{certificates_of}
use Rattle.dv_signed.specs.SignedView.{view_signed}
use Rattle.dv_svc_document.proofs.entering.certificates.Given as goal

abbrev pub invariant-loop-position : goal.invariant-loop-position
invariant-loop-position l = octets_of l.certificates.items ≡ map (λ p. get_or (certificates_of (view_signed l.document.signed)) p []) (take l.position-index l.positions)
