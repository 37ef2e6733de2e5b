use Rattle.std.proofs.Common.{◌≡◌, map, take}
use Rattle.dv_signed.specs.Certificates.{certificates_of}
use Rattle.dv_signed.specs.SignedView.{view_signed}
use Rattle.dv_svc_document.specs.Entries.{entry_of}
use Rattle.dv_svc_document.specs.Kept.{entry_in}
use Rattle.dv_svc_document.proofs.entering.entries.Given as goal

abbrev pub invariant-loop-found : goal.invariant-loop-found
invariant-loop-found l = map entry_in l.entries.items ≡ map (entry_of (certificates_of (view_signed l.document.signed))) (take l.found-index l.results)
