-- What the service of signed documents (RFC 3029 2.3) answers.
use Rattle.std.specs.Prelude.{◌≡◌, ℕ, Bool, true, is_none, List, [], ◌∷◌, map, Option, Some, None, if◌then◌else◌}
use Rattle.std.specs.List.{list_all, list_any}
use Rattle.dv_schema.specs.Schema.{ValueOf, contents, sequence_of}
use Rattle.dv_cms.specs.Types.{signed_data}
use Rattle.dv_request.specs.Types.{dvcs_request, target_chain}
use Rattle.dv_path.specs.Anchors.{Anchored}
use Rattle.dv_draft.specs.Parts.{status_of}
use Rattle.dv_draft.specs.Types.{draft, plain_status}
use Rattle.dv_parts.specs.Drafts.{draft_with, imprint_by_server}
use Rattle.dv_parts.specs.Moments.{IsWhen, time_of}
use Rattle.dv_signed.specs.Certificates.{certificates_of, signers_of}
use Rattle.dv_svc_document.specs.declared.result.SignerResult.{SignerResult}
use Rattle.dv_svc_document.specs.Documents.{IsReadAs}
use Rattle.dv_svc_document.specs.Entries.{entry_of}
use Rattle.dv_svc_document.specs.Results.{HaveResults}

-- ---- the status (RFC 4210 5.2.3)

-- the result has no failure bit
abbrev pub is_good : SignerResult → Bool
is_good r = is_none r.bit

-- That of a document with these results of its signers: granted, 0, where all of them have no bit; grantedWithMods, 1, where some have none;
-- and else rejection, 2, with the bit of the first. Without a signer it is rejection with badMessageCheck, 1.
abbrev pub status_from : List SignerResult → ValueOf plain_status
status_from [] = status_of 2 (Some 1)
status_from (r ∷ rs) =
    if list_all is_good (r ∷ rs) then status_of 0 None else if list_any is_good (r ∷ rs) then status_of 1 None else status_of 2 r.bit

-- the same where a document is read; where none is it is rejection with badDataFormat, 5
abbrev pub status_in : Option (ValueOf signed_data) → List SignerResult → ValueOf plain_status
status_in None results = status_of 2 (Some 5)
status_in (Some document) results = status_from results

-- ---- the entries

-- the contents octets of the entries of signers with these results, one for each; none where there is no signer
abbrev pub entries_from : List (List ℕ) → List SignerResult → Option (List ℕ)
entries_from certificates [] = None
entries_from certificates (r ∷ rs) = Some (contents (sequence_of true target_chain) (map (entry_of certificates) (r ∷ rs)))

-- the same where a document is read
abbrev pub entries_in : Option (ValueOf signed_data) → List SignerResult → Option (List ℕ)
entries_in None results = None
entries_in (Some document) results = entries_from (certificates_of document) results

-- ---- the draft

-- the results of the signers of a document; none where no document is read
abbrev pub AreResults : Option (ValueOf signed_data) → List Anchored → ℕ → List SignerResult → Type 0
AreResults None anchors when results = results ≡ []
AreResults (Some document) anchors when results = HaveResults document anchors when (signers_of document) results

-- The draft is that of the request, from what was found of its document at the moment of validation.
pub record IsVsd (request : ValueOf dvcs_request) (message : List ℕ) (anchors : List Anchored) (moment : ℕ) (policy signers : Option (List ℕ)) (d : ValueOf draft) : Type 0 where
  pub when : ℕ
  pub is_when : IsWhen (time_of request) moment when
  pub document : Option (ValueOf signed_data)
  pub read : IsReadAs message document
  pub results : List SignerResult
  pub right : AreResults document anchors when results
  pub is : d ≡ draft_with request (imprint_by_server message) moment (Some (status_in document results)) policy signers (entries_in document results)
