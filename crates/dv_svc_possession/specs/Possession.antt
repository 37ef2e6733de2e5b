-- What the services of possession (RFC 3029 2.1 and 2.2) answer.
use Rattle.std.specs.Prelude.{ℕ, Bool, true, false, List, Option, Some, None, if◌then◌else◌}
use Rattle.std.proofs.Common.{inl, inr}
use Rattle.dv_schema.specs.Schema.{ValueOf}
use Rattle.dv_names.specs.declared.digest.DigestKind.{DigestKind}
use Rattle.dv_names.specs.Digest.{kind_of}
use Rattle.dv_names.specs.Types.{digest_info}
use Rattle.dv_request.specs.Types.{data_of_request, dvcs_request}
use Rattle.dv_draft.specs.Types.{draft, has_length}
use Rattle.dv_parts.specs.Drafts.{draft_with, imprint_by_server}

-- the octets of a message; none where the data are none
abbrev pub message_in : ValueOf data_of_request → Option (List ℕ)
message_in (inl message) = Some message
message_in (inr other) = None

-- the digest that is claimed, where one is
abbrev pub claim_in : ValueOf data_of_request → Option (ValueOf digest_info)
claim_in (inl message) = None
claim_in (inr (inl digest)) = Some digest
claim_in (inr (inr targets)) = None

-- Possession of data (cpd): the imprint is the SHA-256 digest of the message's octets.
abbrev pub cpd_of : ValueOf dvcs_request → List ℕ → ℕ → Option (List ℕ) → Option (List ℕ) → ValueOf draft
cpd_of request message moment policy signers = draft_with request (imprint_by_server message) moment None policy signers None

-- there is no algorithm
abbrev pub is_unknown : Option DigestKind → Bool
is_unknown None = true
is_unknown (Some kind) = false

-- A claim of possession (ccpd) of this digest is refused by a failure bit (RFC 4210 5.2.3): badAlg, 0, where its algorithm is none of
-- the known ones, and badDataFormat, 5, where the digest hasn't the algorithm's length. Else the imprint is a copy.
abbrev pub claim_failure : ValueOf digest_info → Option ℕ
claim_failure claim =
    if is_unknown (kind_of claim.0) then Some 0 else if has_length (kind_of claim.0) claim.1.0 then None else Some 5

abbrev pub ccpd_of : ValueOf dvcs_request → ValueOf digest_info → ℕ → Option (List ℕ) → Option (List ℕ) → ValueOf draft
ccpd_of request claim moment policy signers = draft_with request claim moment None policy signers None
