-- Paths from a certificate to a trust anchor (RFC 5280 6.1), and the one that is chosen.
use Rattle.std.specs.Prelude.{◌≡◌, ◌<◌, ◌≤◌, ◌+◌, ◌-◌, ℕ, List, length, slice_get, slice_index, Option, Some, IfSome, All, Any}
use Rattle.dv_schema.specs.Schema.{FieldsOf}
use Rattle.dv_walks.specs.Walk.{IsBefore}
use Rattle.dv_x509.specs.Types.{certificate_fields}
use Rattle.dv_path.specs.Anchors.{Anchored}
use Rattle.dv_path.specs.Demands.{Demand, IsAccepted}
use Rattle.dv_path.specs.Issuing.{IsIssuedBy, Issues, bound_of}
use Rattle.dv_path.specs.Members.{member}

-- What a path is searched among and for: the certificates, the position of the target, the anchors, the moment, and what is demanded of policies.
pub record Search : Type 0 where
  pub bag : List (FieldsOf certificate_fields)
  pub target : ℕ
  pub anchors : List Anchored
  pub when : ℕ
  pub demand : Option Demand

abbrev pub search_for : List (FieldsOf certificate_fields) → ℕ → List Anchored → ℕ → Option Demand → Search
search_for bag target anchors when demand = record { bag = bag; target = target; anchors = anchors; when = when; demand = demand }

-- the certificate of the last position of a path
abbrev pub last_of : List (FieldsOf certificate_fields) → List ℕ → FieldsOf certificate_fields
last_of bag path = member bag (slice_index path (length path - 1))

-- The list of positions is a path: 1 to 6 of them, of which the first is the target's; each member is issued by the next, and the last by an
-- anchor; each member behind the target has no path length bound, or one of at least the number of members between the target and it; and the
-- policies are as demanded. A position may stand in it twice.
pub record IsPath (s : Search) (path : List ℕ) : Type 0 where
  pub short : length path ≤ 6
  pub first : slice_get path 0 ≡ Some s.target
  pub members : All (λ position. position < length s.bag) path
  pub issued : (i : ℕ) → i + 1 < length path → Issues (member s.bag (slice_index path (i + 1))) (member s.bag (slice_index path i)) s.when
  pub anchored : Any (λ anchor. IsIssuedBy anchor (last_of s.bag path) s.when) s.anchors
  pub bounded : (i : ℕ) → i + 1 < length path → IfSome (bound_of (member s.bag (slice_index path (i + 1)))) (λ bound. i ≤ bound)
  pub accepted : IsAccepted s.demand s.bag path

-- The anchor at this place is the first that issued the certificate.
pub record IsFirstAnchor (anchors : List Anchored) (v : FieldsOf certificate_fields) (t place : ℕ) : Type 0 where
  pub anchor : Anchored
  pub is : slice_get anchors place ≡ Some anchor
  pub issues : IsIssuedBy anchor v t
  pub least : (other : ℕ) (a : Anchored) → other < place → slice_get anchors other ≡ Some a → ¬ IsIssuedBy a v t

-- The path that is chosen: no other one is shorter, none as long is lower in the order of lists, and its anchor is the first that issued its last
-- member.
pub record IsChosen (s : Search) (path : List ℕ) (anchor : ℕ) : Type 0 where
  pub is : IsPath s path
  pub least : (other : List ℕ) → IsPath s other → ¬ IsBefore other path
  pub anchored : IsFirstAnchor s.anchors (last_of s.bag path) s.when anchor
