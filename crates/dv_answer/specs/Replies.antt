-- What a request is answered: a draft, or the notice of the first step that refuses it.
use Rattle.std.specs.Prelude.{◌≡◌, ◌⊎◌, ℕ, Bool, true, false, List, option_map, Option, Some, None}
use Rattle.std.proofs.Common.{inl, inr}
use Rattle.dv_schema.specs.Schema.{ValueOf}
use Rattle.dv_cms.specs.Types.{signed_data}
use Rattle.dv_signed.specs.Fields.{signer_set_of}
use Rattle.dv_request.specs.Types.{data_of_request, dvcs_request}
use Rattle.dv_draft.specs.declared.draft.Answer.{Answer}
use Rattle.dv_draft.specs.declared.draft.Answer.TheVariants.{Draft as Drafted, Notice}
use Rattle.dv_draft.specs.declared.server.Server.{Server}
use Rattle.dv_draft.specs.Types.{draft}
use Rattle.dv_draft.specs.Views.{view_draft}
use Rattle.dv_path.specs.Anchors.{Anchored}
use Rattle.dv_svc_document.specs.Drafts.{IsVsd}
use Rattle.dv_svc_pkc.specs.Drafts.{IsPkc}
use Rattle.dv_parts.specs.Answered.{IsAnswer}
use Rattle.dv_svc_possession.specs.Possession.{ccpd_of, cpd_of}
use Rattle.dv_answer.specs.declared.reply.Reply.{Reply}
use Rattle.dv_answer.specs.Messages.{IsRequestMessage}
use Rattle.dv_answer.specs.Failures.{IsFailure}
use Rattle.dv_answer.specs.Offices.{IsOffice}
use Rattle.dv_answer.specs.Steps.{Office, is_vsd}

-- the draft for a message: of its validation as a signed document by the anchors, where that is the service, and else of its possession
abbrev pub IsMessageDraft : Bool → ValueOf dvcs_request → List ℕ → List Anchored → ℕ → Option (List ℕ) → Option (List ℕ) → ValueOf draft → Type 0
IsMessageDraft true v message anchors moment policy signers d = IsVsd v message anchors moment policy signers d
IsMessageDraft false v message anchors moment policy signers d = d ≡ cpd_of v message moment policy signers

-- The answer is the draft of the service that takes these data: for a message, of a claim by a digest, or of the validation of targets by the
-- anchors. It has the contents octets of the signers of the request, where it is signed.
abbrev pub IsDraftFor : ValueOf data_of_request → ValueOf dvcs_request → List Anchored → ℕ → Option (List ℕ) → Option (List ℕ) → Answer → Type 0
IsDraftFor (inl message) v anchors moment policy signers answer = IsAnswer answer None (IsMessageDraft (is_vsd v) v message anchors moment policy signers)
IsDraftFor (inr (inl claim)) v anchors moment policy signers answer = IsAnswer answer None (λ d. d ≡ ccpd_of v claim moment policy signers)
IsDraftFor (inr (inr certs)) v anchors moment policy signers answer = IsAnswer answer None (IsPkc v certs anchors moment policy signers)

-- it is the notice of the failure where there is one, and else the draft
abbrev pub IsAnswerWith : Option ℕ → ValueOf dvcs_request → List Anchored → ℕ → Option (List ℕ) → Option (List ℕ) → Answer → Type 0
IsAnswerWith (Some bit) v anchors moment policy signers answer = answer ≡ Notice bit
IsAnswerWith None v anchors moment policy signers answer = IsDraftFor v.1.0 v anchors moment policy signers answer

-- the contents octets of the signers of a request, where it is signed
abbrev pub signers_in : Option (ValueOf signed_data) → Option (List ℕ)
signers_in document = option_map signer_set_of document

-- It is what this server with these anchors answers at a moment to a request, which this SignedData holds where it is signed.
pub record IsAnswerOf (server : Server) (anchors : List Anchored) (moment : ℕ) (document : Option (ValueOf signed_data)) (v : ValueOf dvcs_request) (answer : Answer) : Type 0 where
  pub office : Office
  pub is_office : IsOffice server office
  pub failure : Option ℕ
  pub is_failure : IsFailure office anchors moment document v failure
  pub is : IsAnswerWith failure v anchors moment server.policy (signers_in document) answer

-- The reply to these octets at a moment. A request gets its answer, and its transactionIdentifier beside it. Octets that are no request's
-- message get badDataFormat, 5.
pub data IsReply (octets : List ℕ) (moment : ℕ) (server : Server) (anchors : List Anchored) (reply : Reply) : Type 0 where
  request_message : (document : Option (ValueOf signed_data)) (v : ValueOf dvcs_request) → IsRequestMessage document v octets → reply.transaction ≡ v.1.1.0
      → IsAnswerOf server anchors moment document v reply.answer → IsReply octets moment server anchors reply
  other_octets : ((document : Option (ValueOf signed_data)) (v : ValueOf dvcs_request) → ¬ IsRequestMessage document v octets) → reply.transaction ≡ None
      → reply.answer ≡ Notice 5 → IsReply octets moment server anchors reply

-- what an answer says: the failure bit of a notice, or a draft
abbrev pub said_by : Answer → ℕ ⊎ ValueOf draft
said_by (Notice bit) = inl bit
said_by (Drafted d) = inr (view_draft d)

-- two replies say the same
abbrev pub SaysSame : Reply → Reply → Type 0
SaysSame first second = (first.transaction ≡ second.transaction) × (said_by first.answer ≡ said_by second.answer)
