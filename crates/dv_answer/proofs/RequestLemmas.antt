-- What a request is answered, by the steps that it passes.
use Rattle.std.proofs.Common.{◌≡◌, ◌≤◌, ◌+◌, ℕ, Bool, true, Option, Some, None, List, [], ◌∷◌, refl, sym, ap, subst, inl, inr, arith}
use Rattle.std.specs.Prelude.{IfOk, if◌then◌else◌, sum_by}
use Rattle.std.specs.declared.alloc.AllocError.{AllocError}
use Rattle.std.proofs.Math.Bridge.{le_prop}
use Rattle.std.proofs.Math.Logic.{∥∥₁_elim}
use Rattle.dv_schema.specs.Schema.{ValueOf}
use Rattle.dv_cms.specs.Types.{signed_data}
use Rattle.dv_names.specs.Types.{digest_info}
use Rattle.dv_request.specs.Targets.{targets_in}
use Rattle.dv_request.specs.Types.{data_of_request, dvcs_request}
use Rattle.dv_draft.specs.declared.draft.Answer.{Answer}
use Rattle.dv_draft.specs.declared.draft.Answer.TheVariants.{Draft as Drafted, Notice}
use Rattle.dv_draft.specs.declared.draft.Draft.{Draft}
use Rattle.dv_draft.specs.declared.server.Server.{Server}
use Rattle.dv_draft.specs.Views.{view_draft}
use Rattle.dv_path.specs.Anchors.{Anchored}
use Rattle.dv_svc_document.specs.Documents.{IsReadAs, checks_of}
use Rattle.dv_svc_pkc.specs.Drafts.{IsPkc}
use Rattle.dv_svc_pkc.specs.Outcomes.{checks_of as target_checks_of}
use Rattle.dv_parts.specs.Answered.{IsAnswer}
use Rattle.dv_svc_possession.specs.Possession.{ccpd_of}
use Rattle.dv_answer.specs.Checks.{IsServiceLimit}
use Rattle.dv_answer.specs.Failures.{IsFailure, IsSignersFailure, OrNext}
use Rattle.dv_answer.specs.Offices.{IsOffice}
use Rattle.dv_answer.specs.Replies.{IsAnswerOf, IsAnswerWith, IsDraftFor, IsMessageDraft, signers_in}
use Rattle.dv_answer.specs.Steps.{Office, data_failure, first_of, form_failure, is_valid_at, is_vsd, office_failure, time_failure}

-- ---- the steps

module _ (server : Server) (anchors : List Anchored) (moment : ℕ) (document : Option (ValueOf signed_data)) (v : ValueOf dvcs_request) (office : Office) (is : IsOffice server office) where
  -- the first steps
  abbrev early : Option ℕ
  early = first_of (form_failure moment v ∷ office_failure office v ∷ [])

  -- what comes after them
  abbrev IsLater : Option ℕ → Type 0
  IsLater failure = (signers : Option ℕ) × IsSignersFailure document anchors moment signers × (failure ≡ first_of (signers ∷ data_failure v.1.0 ∷ time_failure office moment ∷ []))

  -- what a request is answered where its form refuses it, or what it asks of the server
  pub step_refuses : (bit : ℕ) → Some bit ≡ early → IsAnswerOf server anchors moment document v (Notice bit)
  step_refuses bit e = record { office = office; is_office = is; failure = Some bit; is_failure = subst (λ (o : Option ℕ). OrNext o IsLater (Some bit)) e refl; is = refl }

-- ---- the draft

-- the failure of the last two steps
abbrev last_of : ValueOf data_of_request → Bool → Option ℕ
last_of matter valid = first_of (data_failure matter ∷ (if valid then None else Some 14) ∷ [])

module _ (anchors : List Anchored) (moment : ℕ) (policy signers : Option (List ℕ)) (v : ValueOf dvcs_request) (valid : Bool) where
  -- the answer to a claim
  claim_told : (claim : ValueOf digest_info) (answer : Answer) (failure : Option ℕ) → v.1.0 ≡ inr (inl claim) → IsAnswer answer failure (λ d. d ≡ ccpd_of v claim moment policy signers)
      → IsAnswerWith failure v anchors moment policy signers answer
  claim_told claim (Drafted d) None same h = subst (λ (x : ValueOf data_of_request). IsDraftFor x v anchors moment policy signers (Drafted d)) (sym same) h
  claim_told claim (Drafted d) (Some bit) same h = absurd h
  claim_told claim (Notice bit) None same h = absurd h
  claim_told claim (Notice bit) (Some b) same h = ap (λ (n : ℕ). Notice n) h

  pub claim_answered : (claim : ValueOf digest_info) (answer : Answer) → v.1.0 ≡ inr (inl claim)
      → IsAnswer answer (last_of (inr (inl claim)) valid) (λ d. d ≡ ccpd_of v claim moment policy signers) → IsAnswerWith (last_of v.1.0 valid) v anchors moment policy signers answer
  claim_answered claim answer same h =
      claim_told claim answer (last_of v.1.0 valid) same
      (subst (λ (x : ValueOf data_of_request). IsAnswer answer (last_of x valid) (λ d. d ≡ ccpd_of v claim moment policy signers)) (sym same) h)

-- ---- how many signatures are verified

-- those for a document that is validated
document_limit : (matter : ValueOf data_of_request) (message : List ℕ) (validates : Bool) (n limit : ℕ) → matter ≡ inl message → validates ≡ true → IsServiceLimit validates matter n limit
    → (document : Option (ValueOf signed_data)) × IsReadAs message document × (limit ≡ checks_of n document)
document_limit matter message validates n limit same is h =
    subst (λ (b : Bool). IsServiceLimit b (inl message) n limit) is (subst (λ (x : ValueOf data_of_request). IsServiceLimit validates x n limit) same h)

pub document_checks : (matter : ValueOf data_of_request) (validates : Bool) (n limit old new : ℕ) → ∥ ((m : List ℕ) × (matter ≡ inl m)) ∥₁ → validates ≡ true
    → ((m : List ℕ) (document : Option (ValueOf signed_data)) → matter ≡ inl m → IsReadAs m document → new ≤ old + checks_of n document) → IsServiceLimit validates matter n limit → new ≤ old + limit
document_checks matter validates n limit old new message is few h =
    ∥∥₁_elim message (hlevel le_prop) (λ m. (let d = document_limit matter m.0 validates n limit m.1 is h in let e = d.2 in omega (arith, few m.0 d.0 m.1 d.1, e)))
