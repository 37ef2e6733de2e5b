-- What a framer keeps, and how it splits a piece.
use Rattle.std.specs.Prelude.{◌≡◌, ◌⊎◌, ◌↔◌, ◌<◌, ◌≤◌, ℕ, false, IsTrue, List, [], ◌∷◌, ◌++◌, length, take}
use Rattle.dv_session.specs.declared.framer.Framer.TheInside.{Inside}
use Rattle.dv_session.specs.declared.framer.Split.{Split}
use Rattle.dv_session.specs.Requests.{IsRequest, Requests, HasHeader, NeedsMore, HasNoHeader}
use Rattle.dv_session.specs.Progress.{Progress}
use Rattle.dv_asn1.specs.Lists.{lists_of}

-- a request has begun: the octets are less than a header, or fewer than their header says
abbrev pub IsBegun : List ℕ → Type 0
IsBegun octets = NeedsMore octets ⊎ ((total : ℕ) × HasHeader octets total × (length octets < total))

-- what contracts see of a framer
abbrev pub progress_of : Inside → Progress
progress_of framer = record {
  before = framer.before;
  behind = framer.behind;
  rest = framer.rest.items;
  stopped = framer.stopped;
}

-- the octets that are kept have begun a request, and are all that came after the last one; after a stop there are none
pub record IsKept (framer : Inside) : Type 0 where
  pub reads : framer.stopped ≡ false → IsBegun framer.rest.items × (framer.behind ≡ length framer.rest.items)
  pub stopped : IsTrue framer.stopped → framer.rest.items ≡ []

-- what stands of the octets of a request that had begun, behind these requests: all of them where there are none
abbrev pub left_behind : List (List ℕ) → List ℕ → List ℕ
left_behind [] begun = begun
left_behind (request ∷ requests) begun = []

-- the octets that come after the requests of a split
abbrev pub rest_of : List ℕ → Split → List ℕ
rest_of begun split = left_behind (lists_of split.requests.items) begun ++ split.ahead.now

-- these octets are the requests of the split, and then this rest
pub record IsSplit (octets rest : List ℕ) (split : Split) : Type 0 where
  pub requests : Requests octets (lists_of split.requests.items) rest
  pub behind : split.behind ≡ length rest
  pub stops : IsTrue split.stops ↔ HasNoHeader rest
  pub goes_on : split.stops ≡ false → IsBegun rest

-- the octets of a request that has begun, and then those of a piece, are split so
abbrev pub Splits : List ℕ → List ℕ → Split → Type 0
Splits begun piece split = IsSplit (begun ++ piece) (rest_of begun split) split

-- the request that has begun ends after so many of the octets that come behind it
pub record Ends (begun ahead : List ℕ) (end : ℕ) : Type 0 where
  pub some : 0 < end
  pub within : end ≤ length ahead
  pub request : IsRequest (begun ++ take end ahead)
