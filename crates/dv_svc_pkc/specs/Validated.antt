-- What the code keeps of targets that were validated.
use Rattle.std.specs.Prelude.{◌≡◌, ℕ, Bool, is_some, List, map, Option, Some, All}
use Rattle.std.specs.List.{flat_map, list_all}
use Rattle.dv_schema.specs.Schema.{ValueOf, spelling}
use Rattle.dv_request.specs.TargetView.{view_target}
use Rattle.dv_request.specs.Types.{dvcs_request, target_chain}
use Rattle.dv_path.specs.Anchors.{Anchored}
use Rattle.dv_draft.specs.Types.{draft}
use Rattle.dv_parts.specs.Drafts.{draft_with, imprint_by_server}
use Rattle.dv_svc_pkc.specs.declared.entry.Finding.{Finding}
use Rattle.dv_svc_pkc.specs.Above.{IsAbove}
use Rattle.dv_svc_pkc.specs.Entries.{entry_with, granted_if}
use Rattle.dv_svc_pkc.specs.Slices.{octets_if}

-- the entry of a target, from what was found of it
abbrev pub entry_in : Finding → ValueOf target_chain
entry_in f = entry_with (view_target f.target) (octets_if f.above)

-- the entries of targets, one behind another
abbrev pub entries_in : List Finding → List ℕ
entries_in findings = flat_map (λ f. spelling target_chain (entry_in f)) findings

-- what was found of a target are the certificates of its chosen path above it
abbrev pub IsFinding : List Anchored → ℕ → Finding → Type 0
IsFinding anchors when f = IsAbove anchors when (view_target f.target) (octets_if f.above)

-- these were found of the targets, one of each, in order
pub record AreFindings (anchors : List Anchored) (when : ℕ) (targets : List (ValueOf target_chain)) (findings : List Finding) : Type 0 where
  pub one_each : map (λ f. view_target f.target) findings ≡ targets
  pub right : All (IsFinding anchors when) findings

-- all of them are granted: each has a path
abbrev pub are_granted : List Finding → Bool
are_granted findings = list_all (λ f. is_some f.above) findings

-- the draft for a request whose data are these octets, from what was found of its targets
abbrev pub draft_from : ValueOf dvcs_request → List ℕ → List Finding → ℕ → Option (List ℕ) → Option (List ℕ) → ValueOf draft
draft_from request certs findings moment policy signers =
    draft_with request (imprint_by_server certs) moment (Some (granted_if (are_granted findings))) policy signers (Some (entries_in findings))
