-- What validation finds of a target (RFC 3029 2.4).
use Rattle.std.specs.Prelude.{◌+◌, ◌*◌, ℕ, is_some, List, length, map, option_map, Option, Some, None}
use Rattle.dv_schema.specs.Schema.{FieldsOf, ValueOf}
use Rattle.dv_request.specs.Types.{path_fields, target_chain}
use Rattle.dv_x509.specs.Types.{certificate_fields}
use Rattle.dv_path.specs.Anchors.{Anchored}
use Rattle.dv_path.specs.Demands.{Demand, policies_in}
use Rattle.dv_path.specs.Members.{member_of}
use Rattle.dv_path.specs.Paths.{IsChosen, IsPath, Search}
use Rattle.dv_svc_pkc.specs.Certificates.{certificates_of}

-- the certificates of a target, among which its path is searched
abbrev pub bag_of : ValueOf target_chain → List (FieldsOf certificate_fields)
bag_of t = map (member_of 160) (certificates_of t)

-- what a PathProcInput demands of the policies of a path; a flag that is there is TRUE
abbrev pub demand_with : FieldsOf path_fields → Demand
demand_with input = record { policies = policies_in input.0; explicit = is_some input.1.1.0; inhibit_any = is_some input.1.1.1.0 }

-- the search for a path from the target to one of the anchors, at the moment of validation
abbrev pub search_of : List Anchored → ℕ → ValueOf target_chain → Search
search_of anchors when t = record { bag = bag_of t; target = 0; anchors = anchors; when = when; demand = option_map demand_with t.1.1.0 }

-- What was found is the chosen path, or nothing where there is no path. It is granted exactly where a path was found.
abbrev pub IsOutcome : Search → Option (List ℕ) → Type 0
IsOutcome s None = (path : List ℕ) → ¬ IsPath s path
IsOutcome s (Some path) = (anchor : ℕ) × IsChosen s path anchor

-- at most how many signatures are verified for a target, where there are so many anchors: one for each pair of a certificate and one that may
-- have issued it
abbrev pub checks_of : ℕ → ValueOf target_chain → ℕ
checks_of anchors t = let n = length (certificates_of t) in n * (n + anchors)
