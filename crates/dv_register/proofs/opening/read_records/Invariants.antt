use Rattle.std.specs.Prelude.{◌≡◌, ◌+◌, ◌-◌, ◌*◌, ◌<◌, ◌≤◌, ℕ, List, length, take, IsTrue}
use Rattle.dv_outside.specs.Station.{Looks, Spends}
use Rattle.dv_register.specs.Opening.{HasAt, IsRead}
use Rattle.dv_register.proofs.opening.read_records.Given as goal

abbrev pub invariant-loop-octet : goal.invariant-loop-octet
invariant-loop-octet g l = record {
  tells : g.V.Station.tells l.station ≡ g.V.Station.tells l.fn.station;
  looks : IsTrue (g.V.Station.tells l.fn.station) → Looks (g.V.Station.content l.fn.station) (g.V.Station.content l.station);
  puts : (g.V.Station.counts l.station).put_faults ≡ (g.V.Station.counts l.fn.station).put_faults;
  spends : Spends (3 * length l.records.places.items + 1) 0 (g.V.Station.counts l.fn.station) (g.V.Station.counts l.station);
  fits : length l.records.places.items ≤ l.limit;
  within : l.records.gate < l.size;
  gate : IsTrue (g.V.Station.tells l.fn.station) → HasAt (g.V.Station.content l.fn.station).reads l.records.gate l.octet;
  read : (head : List ℕ) → length head ≡ 76 → (IsTrue (g.V.Station.tells l.fn.station) → take 76 (g.V.Station.content l.fn.station).reads ≡ head)
      → IsRead (IsTrue (g.V.Station.tells l.fn.station)) (g.V.Station.content l.fn.station).reads head l.limit l.records.gate l.records.places.items l.records.octets.items;
}

abbrev pub decreases-loop-octet : goal.decreases-loop-octet
decreases-loop-octet g l = l.limit - length l.records.places.items
