-- A message has one reply.
use Rattle.std.proofs.Common.{◌≡◌, ◌∙◌, ℕ, Bool, true, false, Option, Some, None, List, [], ◌∷◌, refl, sym, ap, subst, inl, inr}
use Rattle.dv_schema.specs.Schema.{FieldsOf, ValueOf}
use Rattle.dv_time.proofs.TimeLemmas.{same_time}
use Rattle.dv_cms.specs.Types.{signed_data, signer_info}
use Rattle.dv_request.specs.Types.{data_of_request, dvcs_request}
use Rattle.dv_x509.specs.Judged.{certificate_in}
use Rattle.dv_x509.specs.Types.{certificate_fields}
use Rattle.dv_draft.specs.declared.draft.Answer.{Answer}
use Rattle.dv_draft.specs.declared.draft.Answer.TheVariants.{Draft as Drafted, Notice}
use Rattle.dv_draft.specs.declared.server.Server.{Server}
use Rattle.dv_draft.specs.Types.{draft}
use Rattle.dv_draft.specs.Views.{view_draft}
use Rattle.dv_path.specs.Anchors.{Anchored}
use Rattle.dv_signed.specs.Certificates.{signers_of}
use Rattle.dv_svc_document.specs.declared.result.SignerResult.{SignerResult}
use Rattle.dv_svc_document.proofs.OneDraft.{one_result, one_vsd}
use Rattle.dv_svc_pkc.proofs.OneDraft.{one_pkc}
use Rattle.dv_answer.specs.declared.reply.Reply.{Reply}
use Rattle.dv_answer.specs.Failures.{IsFailure, IsFailureOf, IsFirstBit, IsSignersFailure, OrNext}
use Rattle.dv_answer.specs.Offices.{IsOffice}
use Rattle.dv_answer.specs.Replies.{IsAnswerOf, IsAnswerWith, IsDraftFor, IsMessageDraft, IsReply, SaysSame, other_octets, request_message, said_by, signers_in}
use Rattle.dv_answer.specs.Steps.{Office, data_failure, first_of, form_failure, is_vsd, office_failure, time_failure}
use Rattle.dv_answer.proofs.MessageLemmas.{one_request}

-- ---- the office of a server

-- the own certificate of a server is one
same_certificate : (server : Server) (a b : Office) (x : IsOffice server a) (y : IsOffice server b) → x.certificate ≡ y.certificate
same_certificate server a b x y =
    let same : x.own ≡ y.own = cc (x.first, y.first) in
    let read = sym x.decoded ∙ ap (certificate_in 48) same ∙ y.decoded in
    cc read

-- so is its office
pub one_office : (server : Server) (a b : Office) → IsOffice server a → IsOffice server b → a ≡ b
one_office server a b x y =
    let same = same_certificate server a b x y in
    let subject = sym x.subject ∙ ap (λ (v : FieldsOf certificate_fields). v.0.1.1.1.1.1.0) same ∙ y.subject in
    let valid = sym x.validity ∙ ap (λ (v : FieldsOf certificate_fields). v.0.1.1.1.1.0) same ∙ y.validity in
    let from = same_time a.from b.from x.real_from y.real_from (ap (λ v. v.0) valid) in
    let until = same_time a.until b.until x.real_until y.real_until (ap (λ v. v.1.0) valid) in
    let policy = x.policy ∙ sym y.policy in
    λ i. record { subject = subject i; from = from i; until = until i; policy = policy i }

-- ---- the failure of a request

-- a failure or what comes next is one, where what comes next is
one_or : (first : Option ℕ) (IsNext : Option ℕ → Type 0) (a b : Option ℕ) → (IsNext a → IsNext b → a ≡ b) → OrNext first IsNext a → OrNext first IsNext b → a ≡ b
one_or None IsNext a b one p q = one p q
one_or (Some bit) IsNext a b one p q = p ∙ sym q

-- the first bit of signers is one
one_bit : (document : ValueOf signed_data) (anchors : List Anchored) (moment : ℕ) (ss : List (ValueOf signer_info)) (a b : Option ℕ) → IsFirstBit document anchors moment ss a → IsFirstBit document anchors moment ss b → a ≡ b
one_bit document anchors moment [] a b p q = p ∙ sym q
one_bit document anchors moment (s ∷ ss) a b p q =
    let IsRest : Option ℕ → Type 0 = IsFirstBit document anchors moment ss in
    let same : p.0 ≡ q.0 = one_result document anchors moment s p.0 q.0 p.1 q.1 in
    let also : OrNext p.0.bit IsRest b = subst (λ (r : SignerResult). OrNext r.bit IsRest b) (sym same) q.2 in
    one_or p.0.bit IsRest a b (one_bit document anchors moment ss a b) p.2 also

one_of : (document : ValueOf signed_data) (anchors : List Anchored) (moment : ℕ) (ss : List (ValueOf signer_info)) (a b : Option ℕ) → IsFailureOf document anchors moment ss a → IsFailureOf document anchors moment ss b → a ≡ b
one_of document anchors moment [] a b p q = p ∙ sym q
one_of document anchors moment (s ∷ ss) a b p q = one_bit document anchors moment (s ∷ ss) a b p q

-- so is the failure of the signers of a request
one_signers : (document : Option (ValueOf signed_data)) (anchors : List Anchored) (moment : ℕ) (a b : Option ℕ) → IsSignersFailure document anchors moment a → IsSignersFailure document anchors moment b → a ≡ b
one_signers None anchors moment a b p q = p ∙ sym q
one_signers (Some document) anchors moment a b p q = one_of document anchors moment (signers_of document) a b p q

-- and that of the request
one_failure : (office : Office) (anchors : List Anchored) (moment : ℕ) (document : Option (ValueOf signed_data)) (v : ValueOf dvcs_request) (a b : Option ℕ) → IsFailure office anchors moment document v a → IsFailure office anchors moment document v b
    → a ≡ b
one_failure office anchors moment document v a b p q =
    let last : Option ℕ → Option ℕ = λ signers. first_of (signers ∷ data_failure v.1.0 ∷ time_failure office moment ∷ []) in
    one_or (first_of (form_failure moment v ∷ office_failure office v ∷ [])) (λ failure. (signers : Option ℕ) × IsSignersFailure document anchors moment signers × (failure ≡ last signers)) a b
    (λ x y. x.2 ∙ (ap last (one_signers document anchors moment x.0 y.0 x.1 y.1) ∙ sym y.2)) p q

-- ---- an answer

-- the draft for a message is one
same_message_draft : (validates : Bool) (v : ValueOf dvcs_request) (message : List ℕ) (anchors : List Anchored) (moment : ℕ) (policy signers : Option (List ℕ)) (d e : ValueOf draft) → IsMessageDraft validates v message anchors moment policy signers d
    → IsMessageDraft validates v message anchors moment policy signers e → d ≡ e
same_message_draft true v message anchors moment policy signers d e p q = one_vsd v message anchors moment policy signers d e p q
same_message_draft false v message anchors moment policy signers d e p q = p ∙ sym q

-- a draft of the same data is the same
same_draft : (matter : ValueOf data_of_request) (v : ValueOf dvcs_request) (anchors : List Anchored) (moment : ℕ) (policy signers : Option (List ℕ)) (x y : Answer) → IsDraftFor matter v anchors moment policy signers x
    → IsDraftFor matter v anchors moment policy signers y → said_by x ≡ said_by y
same_draft (inl message) v anchors moment policy signers (Drafted d) (Drafted e) p q = ap inr (same_message_draft (is_vsd v) v message anchors moment policy signers (view_draft d) (view_draft e) p q)
same_draft (inl message) v anchors moment policy signers (Drafted d) (Notice b) p q = absurd q
same_draft (inl message) v anchors moment policy signers (Notice b) y p q = absurd p
same_draft (inr (inl claim)) v anchors moment policy signers (Drafted d) (Drafted e) p q = ap inr (p ∙ sym q)
same_draft (inr (inl claim)) v anchors moment policy signers (Drafted d) (Notice b) p q = absurd q
same_draft (inr (inl claim)) v anchors moment policy signers (Notice b) y p q = absurd p
same_draft (inr (inr certs)) v anchors moment policy signers (Drafted d) (Drafted e) p q = ap inr (one_pkc v certs anchors moment policy signers (view_draft d) (view_draft e) p q)
same_draft (inr (inr certs)) v anchors moment policy signers (Drafted d) (Notice b) p q = absurd q
same_draft (inr (inr certs)) v anchors moment policy signers (Notice b) y p q = absurd p

-- an answer with the same failure is the same
same_with : (failure : Option ℕ) (v : ValueOf dvcs_request) (anchors : List Anchored) (moment : ℕ) (policy signers : Option (List ℕ)) (x y : Answer) → IsAnswerWith failure v anchors moment policy signers x
    → IsAnswerWith failure v anchors moment policy signers y → said_by x ≡ said_by y
same_with (Some bit) v anchors moment policy signers x y p q = ap said_by (p ∙ sym q)
same_with None v anchors moment policy signers x y p q = same_draft v.1.0 v anchors moment policy signers x y p q

-- a request has one answer
same_answer : (server : Server) (anchors : List Anchored) (moment : ℕ) (document : Option (ValueOf signed_data)) (v : ValueOf dvcs_request) (x y : Answer) → IsAnswerOf server anchors moment document v x
    → IsAnswerOf server anchors moment document v y → said_by x ≡ said_by y
same_answer server anchors moment document v x y p q =
    let office = one_office server q.office p.office q.is_office p.is_office in
    let also = subst (λ (o : Office). IsFailure o anchors moment document v q.failure) office q.is_failure in
    let failure = one_failure p.office anchors moment document v q.failure p.failure also p.is_failure in
    same_with p.failure v anchors moment server.policy (signers_in document) x y p.is
    (subst (λ (o : Option ℕ). IsAnswerWith o v anchors moment server.policy (signers_in document) y) failure q.is)

-- ---- a message

pub same_reply : (octets : List ℕ) (moment : ℕ) (server : Server) (anchors : List Anchored) (said other : Reply) → IsReply octets moment server anchors said → IsReply octets moment server anchors other → SaysSame said other
same_reply octets moment server anchors said other (request_message d v message carried answered) (request_message e w message' carried' answered') =
    let same = one_request octets e d w v message' message in
    let request = subst (λ (x : ValueOf dvcs_request). IsAnswerOf server anchors moment e x other.answer) same.1 answered' in
    let also = subst (λ (o : Option (ValueOf signed_data)). IsAnswerOf server anchors moment o v other.answer) same.0 request in
    (carried ∙ sym (carried' ∙ ap (λ (x : ValueOf dvcs_request). x.1.1.0) same.1), same_answer server anchors moment d v said.answer other.answer answered also)
same_reply octets moment server anchors said other (request_message d v message carried answered) (other_octets none absent notice) = absurd (none d v message)
same_reply octets moment server anchors said other (other_octets none absent notice) (request_message d v message carried answered) = absurd (none d v message)
same_reply octets moment server anchors said other (other_octets none absent notice) (other_octets none' absent' notice') = (absent ∙ sym absent', ap said_by (notice ∙ sym notice'))
