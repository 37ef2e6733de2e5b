-- The register stands for the history.
use Rattle.std.specs.Prelude.{◌≡◌, ◌↔◌, ℕ, ◌+◌, ◌-◌, ◌^◌, ◌<◌, ◌≤◌, min, drop, Bool, true, IsTrue, List, [], ◌∷◌, ◌++◌, length}
use Rattle.dv_outside.specs.Station.{Content, Counts, Keeps, Spends}
use Rattle.dv_register.specs.State.{State, IsSameRegister, limit_in}
use Rattle.dv_passes.specs.declared.view.Event.{Event}
use Rattle.dv_shared.specs.Events.{records, put_octets, stop_count, cut_count, EndsAtStop}

-- A count rose by at least n, or stands at its end.
abbrev pub RoseBy : ℕ → ℕ → ℕ → Type 0
RoseBy n before now = min (before + n) (2 ^ 64 - 1) ≤ now

-- What was sent in between.
abbrev pub gone_out : Content → Content → List ℕ
gone_out before now = drop (length (before.sent before.moment)) (now.sent now.moment)

-- These octets were sent, and what was told of the moments before stands.
pub record HasSent (octets : List ℕ) (old new : Content) : Type 0 where
  pub keeps : Keeps old new
  pub sent : new.sent new.moment ≡ old.sent old.moment ++ octets

-- The register, which was `origin` when the history began, stands for it: it has the records; it is shut exactly where the
-- history has a stop, which no record follows; where its station tells its content, what was sent since are the octets that were
-- put; and its counts of faults rose by as many as there are stops since the opening, and cut puts since the history began.
pub record StandsFor {V : Type 0} (tells : V → Bool) (content : V → Content) (counts : V → Counts) (origin : State V) (log : List Event) (r : State V) : Type 0 where
  pub same : IsSameRegister origin r
  pub list : records log ≡ r.list
  pub shut : (r.shut ≡ true) ↔ (0 < stop_count log)
  pub ends : EndsAtStop log
  pub telling : tells r.station ≡ tells origin.station
  pub sent : IsTrue (tells origin.station) → HasSent (put_octets log) (content origin.station) (content r.station)
  pub faults : RoseBy (stop_count log) (counts r.opening).faults (counts r.station).faults
  pub put_faults : RoseBy (cut_count log) (counts origin.station).put_faults (counts r.station).put_faults
  pub spends : (n : ℕ) × (m : ℕ) × Spends n m (counts origin.station) (counts r.station)

-- From 2^62 events on only reservations add to it, so its length is never past the range of its word.
pub record IsShort {V : Type 0} (log : List Event) (r : State V) : Type 0 where
  pub room : length log ≤ 2 ^ 62 + length (records log) + stop_count log
  pub once : stop_count log ≤ 1
  pub fits : length r.list ≤ limit_in r

-- What lies under the lock: it knows with which register the history began.
pub record IsLocked {V : Type 0} (tells : V → Bool) (content : V → Content) (counts : V → Counts) (origins : List (State V)) (log : List Event) (r : State V) : Type 0 where
  pub origin : State V
  pub is : origins ≡ origin ∷ []
  pub stands : StandsFor tells content counts origin log r
  pub short : IsShort log r
