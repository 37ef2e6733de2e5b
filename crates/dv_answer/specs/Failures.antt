-- The failure of a request, from the first step that refuses it. A step is looked at only where none before it does.
use Rattle.std.specs.Prelude.{◌≡◌, ℕ, List, [], ◌∷◌, Option, Some, None}
use Rattle.dv_schema.specs.Schema.{ValueOf}
use Rattle.dv_cms.specs.Types.{signed_data, signer_info}
use Rattle.dv_request.specs.Types.{dvcs_request}
use Rattle.dv_path.specs.Anchors.{Anchored}
use Rattle.dv_signed.specs.Certificates.{signers_of}
use Rattle.dv_svc_document.specs.declared.result.SignerResult.{SignerResult}
use Rattle.dv_svc_document.specs.Results.{IsResult}
use Rattle.dv_answer.specs.Steps.{Office, data_failure, first_of, form_failure, office_failure, time_failure}

-- the failure is this one where there is one, and else what comes next
abbrev pub OrNext : Option ℕ → (Option ℕ → Type 0) → Option ℕ → Type 0
OrNext (Some bit) IsNext failure = failure ≡ Some bit
OrNext None IsNext failure = IsNext failure

-- It is the bit of the first of these signers of a SignedData whose result at the moment has one; none where there is no such signer.
abbrev pub IsFirstBit : ValueOf signed_data → List Anchored → ℕ → List (ValueOf signer_info) → Option ℕ → Type 0
IsFirstBit document anchors moment [] failure = failure ≡ None
IsFirstBit document anchors moment (s ∷ ss) failure =
    (r : SignerResult) × IsResult document anchors moment s r × OrNext r.bit (IsFirstBit document anchors moment ss) failure

-- the same where there are signers; without one it is badMessageCheck, 1
abbrev pub IsFailureOf : ValueOf signed_data → List Anchored → ℕ → List (ValueOf signer_info) → Option ℕ → Type 0
IsFailureOf document anchors moment [] failure = failure ≡ Some 1
IsFailureOf document anchors moment (s ∷ ss) failure = IsFirstBit document anchors moment (s ∷ ss) failure

-- It is the failure of the signers of a request at the moment of service; none where the request isn't signed.
abbrev pub IsSignersFailure : Option (ValueOf signed_data) → List Anchored → ℕ → Option ℕ → Type 0
IsSignersFailure None anchors moment failure = failure ≡ None
IsSignersFailure (Some document) anchors moment failure = IsFailureOf document anchors moment (signers_of document) failure

-- It is the failure of a request, which this SignedData holds where it is signed: of its form, of what it asks of this server, of its signers,
-- of its data, or of the server's own certificate.
abbrev pub IsFailure : Office → List Anchored → ℕ → Option (ValueOf signed_data) → ValueOf dvcs_request → Option ℕ → Type 0
IsFailure office anchors moment document v =
    OrNext (first_of (form_failure moment v ∷ office_failure office v ∷ []))
    (λ failure. (signers : Option ℕ) × IsSignersFailure document anchors moment signers
    × (failure ≡ first_of (signers ∷ data_failure v.1.0 ∷ time_failure office moment ∷ [])))
