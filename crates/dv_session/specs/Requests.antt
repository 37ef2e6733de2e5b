-- How a stream of octets is split into requests.
use Rattle.std.specs.Prelude.{◌≡◌, ◌≢◌, ◌+◌, ◌≤◌, ℕ, List, [], ◌∷◌, ◌++◌, length}
use Rattle.std.specs.List.{concat, AllByRecursion}
use Rattle.dv_schema.specs.Tlv.{tlv, length_octets}

-- the most octets of a request
abbrev pub request_limit : ℕ
request_limit = 262144

-- A request is a SEQUENCE value of at most this many octets.
abbrev pub IsRequest : List ℕ → Type 0
IsRequest octets = (contents : List ℕ) × (octets ≡ tlv 48 contents) × (length octets ≤ request_limit)

-- The stream is these requests, one after another, and then octets that begin with no request.
pub record Requests (stream : List ℕ) (requests : List (List ℕ)) (rest : List ℕ) : Type 0 where
  pub whole : stream ≡ concat requests ++ rest
  pub each : AllByRecursion IsRequest requests
  pub open_end : (front behind : List ℕ) → rest ≡ front ++ behind → IsRequest front → ⊥

-- the header of a SEQUENCE with so many contents octets
abbrev pub header_of : ℕ → List ℕ
header_of contents = 48 ∷ length_octets contents

-- such a header begins a request of this many octets
abbrev pub IsHeader : List ℕ → ℕ → Type 0
IsHeader octets total = (contents : ℕ) × (octets ≡ header_of contents) × (total ≡ length octets + contents) × (total ≤ request_limit)

-- the octets begin with the header of a request of this many octets
abbrev pub HasHeader : List ℕ → ℕ → Type 0
HasHeader front total = (octets more : List ℕ) × (front ≡ octets ++ more) × IsHeader octets total

-- the octets are less than a header, and go on to one
abbrev pub NeedsMore : List ℕ → Type 0
NeedsMore front = (more : List ℕ) × (total : ℕ) × (more ≢ []) × IsHeader (front ++ more) total

-- the octets begin no header, and go on to none
abbrev pub HasNoHeader : List ℕ → Type 0
HasNoHeader front = (octets more behind : List ℕ) (total : ℕ) → IsHeader octets total → front ++ more ≡ octets ++ behind → ⊥
