-- Which reply octets get, by what decoding them answers.
use Rattle.std.proofs.Common.{◌≡◌, ◌≤◌, ◌+◌, ℕ, Option, Some, None, Result, Ok, Err, List, subst, inr}
use Rattle.std.specs.Prelude.{IfOk, MatchOption}
use Rattle.std.specs.declared.alloc.AllocError.{AllocError}
use Rattle.dv_schema.specs.Schema.{ValueOf, spelling}
use Rattle.dv_schema.specs.Fits.{Fits}
use Rattle.dv_cms.specs.Types.{content_info, signed_data, signed_data_type}
use Rattle.dv_request.specs.Request.{request_data_type}
use Rattle.dv_request.specs.Types.{dvcs_request}
use Rattle.dv_draft.specs.declared.draft.Answer.TheVariants.{Notice}
use Rattle.dv_draft.specs.declared.server.Server.{Server}
use Rattle.dv_path.specs.Anchors.{Anchored}
use Rattle.dv_svc_document.specs.Documents.{checks_of}
use Rattle.dv_signed.specs.SignedView.{view_signed}
use Rattle.dv_answer.specs.declared.reply.Reply.{Reply}
use Rattle.dv_answer.specs.declared.signed.Signatures.{Signatures}
use Rattle.dv_answer.specs.Messages.{IsMessageOf, IsRequestMessage}
use Rattle.dv_answer.specs.Checks.{Checks, IsServiceLimit}
use Rattle.dv_answer.specs.Replies.{IsAnswerOf, IsReply, other_octets, request_message}
use Rattle.dv_answer.specs.Steps.{is_vsd}
use Rattle.dv_answer.proofs.MessageLemmas.{info_of, one_message, signed_info}

-- octets that spell no ContentInfo are no message
pub no_info : (octets : List ℕ) → ((v : ValueOf content_info) → Fits content_info 32 v → octets ≡ spelling content_info v → ⊥) → (document : Option (ValueOf signed_data)) (inside : List ℕ) → ¬ IsMessageOf document inside octets
no_info octets none None inside is = none (info_of request_data_type inside) is.0 is.1
no_info octets none (Some document) inside is = let info = signed_info document octets is.0 in none (info_of signed_data_type (spelling signed_data document)) info.0 info.1

-- a message whose content is no request is that of none
pub no_request : (octets content : List ℕ) (document : Option (ValueOf signed_data)) → IsMessageOf document content octets → ((v : ValueOf dvcs_request) → Fits dvcs_request 30 v → content ≡ spelling dvcs_request v → ⊥)
    → (other : Option (ValueOf signed_data)) (v : ValueOf dvcs_request) → ¬ IsRequestMessage other v octets
no_request octets content document message none other v is = none v is.0 (one_message octets document other content (spelling dvcs_request v) message is.1).1

module _ (octets : List ℕ) (moment : ℕ) (server : Server) (anchors : List Anchored) where
  -- what is no message gets badDataFormat
  pub unread_reply : (reply : Reply) → ((document : Option (ValueOf signed_data)) (inside : List ℕ) → ¬ IsMessageOf document inside octets) → reply.answer ≡ Notice 5 → reply.transaction ≡ None → IsReply octets moment server anchors reply
  unread_reply reply none notice absent = other_octets (λ document v is. none document (spelling dvcs_request v) is.1) absent notice

  module _ (document : Option (ValueOf signed_data)) (content : List ℕ) (message : IsMessageOf document content octets) (v : ValueOf dvcs_request) (fits : Fits dvcs_request 30 v) (spelled : content ≡ spelling dvcs_request v) where
    -- the message is that of the request that its content is
    its_request : IsRequestMessage document v octets
    its_request = (fits, subst (λ (c : List ℕ). IsMessageOf document c octets) spelled message)

    -- so it gets the request's reply
    pub request_reply : (r : Result Reply AllocError) → IfOk r (λ x. IsAnswerOf server anchors moment document v x.answer) → IfOk r (λ x. x.transaction ≡ v.1.1.0) → IfOk r (IsReply octets moment server anchors)
    request_reply (Ok reply) answered carried = request_message document v its_request carried answered
    request_reply (Err e) answered carried = tt

    -- and so many signatures are verified for it
    pub request_checks : (n old new : ℕ) → ((limit : ℕ) → IsServiceLimit (is_vsd v) v.1.0 n limit → new ≤ old + (checks_of n document + limit)) → Checks octets n old new
    request_checks n old new few = inr (document, v, its_request, few)

-- what was read of a signed message
pub read_of : (octets : List ℕ) (o : Option Signatures) (s : Signatures) → o ≡ Some s
    → MatchOption o ((document : ValueOf signed_data) (inside : List ℕ) → ¬ IsMessageOf (Some document) inside octets) (λ s. IsMessageOf (Some (view_signed s.signed)) s.content.now octets)
    → IsMessageOf (Some (view_signed s.signed)) s.content.now octets
read_of octets o s is read =
    subst (λ (x : Option Signatures). MatchOption x ((document : ValueOf signed_data) (inside : List ℕ) → ¬ IsMessageOf (Some document) inside octets) (λ y. IsMessageOf (Some (view_signed y.signed)) y.content.now octets)) is read
