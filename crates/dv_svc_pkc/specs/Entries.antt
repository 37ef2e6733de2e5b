-- What the certificate of service says of a target (RFC 3029 2.4, 9.1).
use Rattle.std.specs.Prelude.{ℕ, Bool, true, false, List, [], ◌∷◌, ◌++◌, drop, map, option_map, slice_index_or, Option, Some, None, if◌then◌else◌}
use Rattle.std.proofs.Common.{inl, inr}
use Rattle.std.specs.List.{zip}
use Rattle.dv_schema.specs.Schema.{FieldsOf, ValueOf, contents, sequence_of}
use Rattle.dv_status.specs.Types.{status_fields}
use Rattle.dv_request.specs.Types.{target_chain, token}
use Rattle.dv_draft.specs.Parts.{status_of}
use Rattle.dv_svc_pkc.specs.Certificates.{certificates_of}

-- granted, 0, or rejection, 2, with signerNotTrusted, 20 (RFC 4210 5.2.3)
abbrev pub granted_if : Bool → FieldsOf status_fields
granted_if granted = if granted then status_of 0 None else status_of 2 (Some 20)

-- a certificate as a token, from its whole octets under A0
abbrev pub certificate_token : List ℕ → ValueOf token
certificate_token octets = inl octets

-- a status as a token
abbrev pub status_token : FieldsOf status_fields → ValueOf token
status_token status = inr (inl status)

-- the certificates of a path above the target, which is its first position
abbrev pub above : List (List ℕ) → List ℕ → List (List ℕ)
above certificates path = map (λ position. slice_index_or certificates position []) (drop 1 path)

-- those certificates, where there is a path, and last the status of the target
abbrev pub tokens_with : Option (List (List ℕ)) → List (ValueOf token)
tokens_with None = status_token (granted_if false) ∷ []
tokens_with (Some certificates) = map certificate_token certificates ++ status_token (granted_if true) ∷ []

-- a target as it stands, with them as its chain, and with its path input
abbrev pub entry_with : ValueOf target_chain → Option (List (List ℕ)) → ValueOf target_chain
entry_with t certificates = (t.0, (Some (contents (sequence_of true token) (tokens_with certificates)), (t.1.1.0, tt)))

-- the entry of a target whose chosen path is given, or of which none was found
abbrev pub entry_of : ValueOf target_chain → Option (List ℕ) → ValueOf target_chain
entry_of t path = entry_with t (option_map (above (certificates_of t)) path)

-- the entries of targets, one for each, from what was found of each
abbrev pub entries_of : List (ValueOf target_chain) → List (Option (List ℕ)) → List (ValueOf target_chain)
entries_of targets outcomes = map (λ x. entry_of x.0 x.1) (zip targets outcomes)
