-- What the service of certificates (RFC 3029 2.4) answers.
use Rattle.std.specs.Prelude.{◌≡◌, ℕ, true, is_some, List, length, Option, Some, All}
use Rattle.std.specs.List.{list_all, zip}
use Rattle.dv_schema.specs.Schema.{ValueOf, contents, sequence_of}
use Rattle.dv_request.specs.Targets.{targets_in}
use Rattle.dv_request.specs.Types.{dvcs_request, target_chain}
use Rattle.dv_path.specs.Anchors.{Anchored}
use Rattle.dv_draft.specs.Types.{draft}
use Rattle.dv_parts.specs.Drafts.{draft_with, imprint_by_server}
use Rattle.dv_parts.specs.Moments.{IsWhen, time_of}
use Rattle.dv_svc_pkc.specs.Entries.{entries_of, granted_if}
use Rattle.dv_svc_pkc.specs.Outcomes.{IsOutcome, search_of}

-- The draft for a request whose data are these octets, the whole value that lists its targets, from what was found of each target: its
-- information as it stands, the SHA-256 digest of the octets as the imprint, the moment of service, granted where all targets are and else
-- rejection with signerNotTrusted, the policy of the server, the signers of the request where it is signed, and an entry for each target.
abbrev pub pkc_of : ValueOf dvcs_request → List ℕ → List (Option (List ℕ)) → ℕ → Option (List ℕ) → Option (List ℕ) → ValueOf draft
pkc_of request certs outcomes moment policy signers =
    draft_with request (imprint_by_server certs) moment (Some (granted_if (list_all is_some outcomes))) policy signers (Some (contents (sequence_of true target_chain) (entries_of (targets_in certs) outcomes)))

-- The draft is that of the request, with the chosen path of each target, or without one where there is none.
pub record IsPkc (request : ValueOf dvcs_request) (certs : List ℕ) (anchors : List Anchored) (moment : ℕ) (policy signers : Option (List ℕ)) (d : ValueOf draft) : Type 0 where
  pub when : ℕ
  pub is_when : IsWhen (time_of request) moment when
  pub outcomes : List (Option (List ℕ))
  pub one_each : length outcomes ≡ length (targets_in certs)
  pub right : All (λ x. IsOutcome (search_of anchors when x.0) x.1) (zip (targets_in certs) outcomes)
  pub is : d ≡ pkc_of request certs outcomes moment policy signers
