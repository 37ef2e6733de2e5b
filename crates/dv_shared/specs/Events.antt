-- What a history says of a register.
use Rattle.std.specs.Prelude.{◌≡◌, ℕ, suc, ◌+◌, Bool, true, false, if◌then◌else◌, List, [], ◌∷◌, ◌++◌}
use Rattle.dv_outside.specs.Releases.{Entry}
use Rattle.dv_passes.specs.declared.view.Event.{Event}
use Rattle.dv_passes.specs.declared.view.Event.TheVariants.{Reserved, Put, Stopped}

abbrev pub entry : ℕ → List ℕ → Entry
entry kind contents = record { kind = kind; contents = contents }

-- The records that were reserved.
abbrev pub records : List Event → List Entry
records [] = []
records (Reserved kind contents ∷ es) = entry kind contents ∷ records es
records (Put octets whole ∷ es) = records es
records (Stopped ∷ es) = records es

-- The octets that were put.
abbrev pub put_octets : List Event → List ℕ
put_octets [] = []
put_octets (Reserved kind contents ∷ es) = put_octets es
put_octets (Put octets whole ∷ es) = octets ++ put_octets es
put_octets (Stopped ∷ es) = put_octets es

-- How often the station failed in a reservation.
abbrev pub stop_count : List Event → ℕ
stop_count [] = 0
stop_count (Reserved kind contents ∷ es) = stop_count es
stop_count (Put octets whole ∷ es) = stop_count es
stop_count (Stopped ∷ es) = 1 + stop_count es

-- How many puts were not whole.
abbrev pub cut_count : List Event → ℕ
cut_count [] = 0
cut_count (Reserved kind contents ∷ es) = cut_count es
cut_count (Put octets whole ∷ es) = (if whole then 0 else 1) + cut_count es
cut_count (Stopped ∷ es) = cut_count es

-- No record follows where the station failed.
abbrev pub EndsAtStop : List Event → Type 0
EndsAtStop [] = Unit {0}
EndsAtStop (Reserved kind contents ∷ es) = EndsAtStop es
EndsAtStop (Put octets whole ∷ es) = EndsAtStop es
EndsAtStop (Stopped ∷ es) = records es ≡ []

-- The events with which the history of a register of this list begins.
abbrev pub reserved_all : List Entry → List Event
reserved_all [] = []
reserved_all (e ∷ list) = Reserved e.kind e.contents ∷ reserved_all list

abbrev pub stopped_if : Bool → List Event
stopped_if true = Stopped ∷ []
stopped_if false = []

abbrev pub first_events : List Entry → Bool → List Event
first_events list shut = reserved_all list ++ stopped_if shut

-- Events with their places, of which the first is n.
abbrev pub placed : ℕ → List Event → List (ℕ × Event)
placed n [] = []
placed n (e ∷ es) = (n, e) ∷ placed (suc n) es
