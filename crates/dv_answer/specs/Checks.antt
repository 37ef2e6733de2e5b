-- How many signatures are verified for the reply to a message.
use Rattle.std.specs.Prelude.{◌≡◌, ◌≤◌, ◌+◌, ◌⊎◌, ℕ, Bool, true, false, List, sum_by, Option}
use Rattle.std.proofs.Common.{inl, inr}
use Rattle.dv_schema.specs.Schema.{ValueOf}
use Rattle.dv_cms.specs.Types.{signed_data}
use Rattle.dv_request.specs.Targets.{targets_in}
use Rattle.dv_request.specs.Types.{data_of_request, dvcs_request}
use Rattle.dv_svc_document.specs.Documents.{IsReadAs, checks_of}
use Rattle.dv_svc_pkc.specs.Outcomes.{checks_of as target_checks_of}
use Rattle.dv_answer.specs.Messages.{IsRequestMessage}
use Rattle.dv_answer.specs.Steps.{is_vsd}

-- The service for such data verifies at most so many, where there are so many anchors: those for the document that a message is, where it is
-- validated, those for each of its targets, and none for other data.
abbrev pub IsServiceLimit : Bool → ValueOf data_of_request → ℕ → ℕ → Type 0
IsServiceLimit true (inl message) anchors limit = (document : Option (ValueOf signed_data)) × IsReadAs message document × (limit ≡ checks_of anchors document)
IsServiceLimit false (inl message) anchors limit = limit ≡ 0
IsServiceLimit validates (inr (inl claim)) anchors limit = limit ≡ 0
IsServiceLimit validates (inr (inr certs)) anchors limit = limit ≡ sum_by (target_checks_of anchors) (targets_in certs)

-- Between two counts there are at most as many as for the signers of the request that the octets are, and for its service. There are none where
-- they are no request.
abbrev pub Checks : List ℕ → ℕ → ℕ → ℕ → Type 0
Checks octets anchors old new =
    (new ≡ old) ⊎ ((document : Option (ValueOf signed_data)) × (v : ValueOf dvcs_request) × IsRequestMessage document v octets
    × ((limit : ℕ) → IsServiceLimit (is_vsd v) v.1.0 anchors limit → new ≤ old + (checks_of anchors document + limit)))
