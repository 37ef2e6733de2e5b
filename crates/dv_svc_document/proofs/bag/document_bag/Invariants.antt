use Rattle.std.proofs.Common.{◌≡◌, map, take}
use Rattle.std.specs.Prelude.{All}
use Rattle.dv_draft.specs.Records.{IsCertificate}
use Rattle.dv_request.specs.Materials.{IsCertificate as FitsMessage}
use Rattle.dv_path.specs.Members.{member_of}
use Rattle.dv_signed.specs.Certificates.{certificates_of}
use Rattle.dv_signed.specs.SignedView.{view_signed}
use Rattle.dv_svc_document.proofs.bag.document_bag.Given as goal

abbrev pub invariant-loop-index : goal.invariant-loop-index
invariant-loop-index l = record {
  bag : l.bag ≡ map (member_of 48) (take l.index (certificates_of (view_signed l.signed)));
  fit : All FitsMessage (take l.index (certificates_of (view_signed l.signed)));
  read : All IsCertificate (take l.index (certificates_of (view_signed l.signed)));
}
