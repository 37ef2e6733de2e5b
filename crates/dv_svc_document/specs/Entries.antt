-- What the certificate of service says of a signer of a document (RFC 3029 2.3, 9.1).
use Rattle.std.specs.Prelude.{◌≤◌, ℕ, true, List, [], ◌∷◌, ◌++◌, drop, length, map, option_map, slice_index_or, sum_by, unwrap_or, Option, Some, None}
use Rattle.std.proofs.Common.{inr, inl}
use Rattle.dv_schema.specs.Schema.{FieldsOf, ValueOf, contents, sequence_of}
use Rattle.dv_status.specs.Types.{status_fields}
use Rattle.dv_request.specs.Made.{certificate_token}
use Rattle.dv_request.specs.Types.{target_chain, token}
use Rattle.dv_path.specs.declared.path.Path.{Path}
use Rattle.dv_draft.specs.Parts.{status_of}
use Rattle.dv_svc_document.specs.declared.result.SignerResult.{SignerResult}

-- granted, 0, or rejection, 2, where there is a failure bit (RFC 4210 5.2.3)
abbrev pub status_with : Option ℕ → FieldsOf status_fields
status_with None = status_of 0 None
status_with (Some bit) = status_of 2 (Some bit)

-- a status as a token
abbrev pub status_token : FieldsOf status_fields → ValueOf token
status_token status = inr (inl status)

-- the positions of a path; none where there is no path
abbrev pub positions_of : Option Path → List ℕ
positions_of None = []
positions_of (Some path) = path.positions

-- the certificates of a path above the first of its positions
abbrev pub above : List (List ℕ) → List ℕ → List (List ℕ)
above certificates path = map (λ position. slice_index_or certificates position []) (drop 1 path)

-- the contents octets of a chain of these certificates, and last the status with this failure bit
abbrev pub chain_with : List (List ℕ) → Option ℕ → List ℕ
chain_with above bit = contents (sequence_of true token) (map certificate_token above ++ status_token (status_with bit) ∷ [])

-- The entry of a signer whose certificate has these octets, with those above it and the failure bit: the certificate, and as its chain those
-- above it and last the status of the signer. Where no certificate is named it is the status alone, without a chain.
abbrev pub entry_with : Option (List ℕ) → List (List ℕ) → Option ℕ → ValueOf target_chain
entry_with None above bit = (status_token (status_with bit), (None, (None, tt)))
entry_with (Some octets) above bit = (certificate_token octets, (Some (chain_with above bit), (None, tt)))

-- that of a signer with this result, among these certificates
abbrev pub entry_of : List (List ℕ) → SignerResult → ValueOf target_chain
entry_of certificates r =
    entry_with (option_map (λ position. slice_index_or certificates position []) r.certificate) (above certificates (positions_of r.path)) r.bit

-- ---- how long they are

-- at most one certificate and five above it, each of at most 8,192 octets
pub record AreShort (certificate : Option (List ℕ)) (above : List (List ℕ)) : Type 0 where
  pub own : length (unwrap_or certificate []) ≤ 8192
  pub others : sum_by length above ≤ 40960
