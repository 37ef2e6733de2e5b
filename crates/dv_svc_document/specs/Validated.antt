-- What the code found of a message.
use Rattle.std.specs.Prelude.{◌≡◌, ℕ, List, option_map, Option, Some, IfSome}
use Rattle.dv_schema.specs.Schema.{ValueOf}
use Rattle.dv_cms.specs.Types.{signed_data}
use Rattle.dv_path.specs.Anchors.{Anchored}
use Rattle.dv_draft.specs.Parts.{view_imprint, view_status}
use Rattle.dv_parts.specs.declared.draft.Found.{Found}
use Rattle.dv_parts.specs.Drafts.{AreTargets, imprint_by_server}
use Rattle.dv_svc_document.specs.declared.result.SignerResult.{SignerResult}
use Rattle.dv_svc_document.specs.Documents.{IsReadAs}
use Rattle.dv_svc_document.specs.Drafts.{AreResults, entries_in, status_in}

-- It is what is found of the message by its document and the results of its signers.
pub record IsFound (message : List ℕ) (anchors : List Anchored) (when : ℕ) (f : Found) : Type 0 where
  pub document : Option (ValueOf signed_data)
  pub read : IsReadAs message document
  pub results : List SignerResult
  pub right : AreResults document anchors when results
  pub imprint : view_imprint f.imprint ≡ imprint_by_server message
  pub status : option_map view_status f.status ≡ Some (status_in document results)
  pub certs : f.certs ≡ entries_in document results
  pub targets : IfSome f.certs AreTargets
