-- The certificates of a chosen path above its target.
use Rattle.std.specs.Prelude.{◌≡◌, ℕ, List, option_map, Option}
use Rattle.dv_schema.specs.Schema.{ValueOf}
use Rattle.dv_request.specs.Types.{target_chain}
use Rattle.dv_path.specs.Anchors.{Anchored}
use Rattle.dv_svc_pkc.specs.Certificates.{certificates_of}
use Rattle.dv_svc_pkc.specs.Entries.{above}
use Rattle.dv_svc_pkc.specs.Outcomes.{IsOutcome, search_of}

-- They are those of the path that is chosen for the target; or there is no path.
pub record IsAbove (anchors : List Anchored) (when : ℕ) (t : ValueOf target_chain) (certificates : Option (List (List ℕ))) : Type 0 where
  pub path : Option (List ℕ)
  pub right : IsOutcome (search_of anchors when t) path
  pub is : certificates ≡ option_map (above (certificates_of t)) path
