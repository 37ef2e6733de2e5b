-- The register and its history go on together.
use Rattle.std.proofs.Common.{◌≡◌, ◌↔◌, ℕ, zero, suc, ◌+◌, ◌-◌, ◌^◌, ◌<◌, ◌≤◌, Bool, true, false, IsTrue, List, [], ◌∷◌, ◌++◌, length, refl, ap, sym, ◌∙◌, subst, arith, append_assoc, length-append}
use Rattle.std.specs.Prelude.{min}
use Rattle.std.proofs.lemmas.List.{append-nil}
use mir.Val.{bool_byte}
use Rattle.dv_lms.specs.Height.{leaf_count}
use Rattle.dv_lms.specs.Identity.{Identity}
use Rattle.dv_outside.specs.Causes.{Rose}
use Rattle.dv_outside.specs.Releases.{Entry, Identity as RuleIdentity}
use Rattle.dv_outside.specs.Station.{Content, Counts, Spends}
use Rattle.dv_outside.proofs.Counting.{spends_none, spends_then}
use Rattle.dv_register.specs.State.{State, IsKept, IsSameRegister, limit_in}
use Rattle.dv_passes.specs.declared.view.Event.{Event}
use Rattle.dv_passes.specs.declared.view.Event.TheVariants.{Reserved, Put, Stopped}
use Rattle.dv_shared.specs.Events.{entry, records, put_octets, stop_count, cut_count, EndsAtStop, reserved_all, stopped_if, first_events}
use Rattle.dv_shared.specs.Stands.{RoseBy, HasSent, StandsFor, IsShort, IsLocked}
use Rattle.dv_shared.proofs.Growth.{records-append, put_octets-append, stop_count-append, cut_count-append, ends_running, ends_put, records-reserved_all, put_octets-reserved_all, stop_count-reserved_all, cut_count-reserved_all, length-reserved_all}
use Rattle.dv_shared.proofs.Sent.{sent_none, sent_then}

rose_further : (n m a b c : ℕ) → RoseBy n a b → RoseBy m b c → RoseBy (n + m) a c
rose_further n m a b c p q = omega (arith, p, q)

-- Two truths that follow from each other are one.
pub same_shut : (a b : Bool) → (a ≡ true → b ≡ true) → (b ≡ true → a ≡ true) → a ≡ b
same_shut true b to from = sym (to refl)
same_shut false true to from = from refl
same_shut false false to from = refl

-- What a call on the register does while these events are added.
pub record Goes {V : Type 0} (tells : V → Bool) (content : V → Content) (counts : V → Counts) (added : List Event) (r s : State V) : Type 0 where
  pub same : IsSameRegister r s
  pub list : s.list ≡ r.list ++ records added
  pub telling : tells s.station ≡ tells r.station
  pub sent : IsTrue (tells r.station) → HasSent (put_octets added) (content r.station) (content s.station)
  pub faults : RoseBy (stop_count added) (counts r.station).faults (counts s.station).faults
  pub put_faults : RoseBy (cut_count added) (counts r.station).put_faults (counts s.station).put_faults
  pub spends : (n : ℕ) × (m : ℕ) × Spends n m (counts r.station) (counts s.station)
  pub fits : length s.list ≤ limit_in s

module _ {V : Type 0} (tells : V → Bool) (content : V → Content) (counts : V → Counts) where
  pub goes_on : (origins : List (State V)) (log added : List Event) (r s : State V) → IsLocked tells content counts origins log r → Goes tells content counts added r s
      → (s.shut ≡ true) ↔ (0 < stop_count log + stop_count added) → EndsAtStop (log ++ added) → length (log ++ added) ≤ 2 ^ 62 + length (records log) + length (records added) + stop_count log + stop_count added
      → stop_count log + stop_count added ≤ 1 → IsLocked tells content counts origins (log ++ added) s
  goes_on origins log added r s held goes shut ends room once =
      let k = held.stands in
      let o = held.origin in
      let stops = stop_count-append log added in
      let cuts = cut_count-append log added in
      let same = goes.same in
      record {
        origin = o;
        is = held.is;
        stands = record {
          same = record {
            opening = same.opening ∙ k.same.opening;
            identity = same.identity ∙ k.same.identity;
            first = same.first ∙ k.same.first;
            base = same.base ∙ k.same.base;
          };
          list = records-append log added ∙ (ap (λ (l : List Entry). l ++ records added) k.list ∙ sym goes.list);
          shut = subst (λ (n : ℕ). (s.shut ≡ true) ↔ (0 < n)) (sym stops) shut;
          ends = ends;
          telling = goes.telling ∙ k.telling;
          sent = λ told. subst (λ (l : List ℕ). HasSent l (content o.station) (content s.station)) (sym (put_octets-append log added))
              (sent_then (put_octets log) (put_octets added) _ _ _ (k.sent told) (goes.sent (subst IsTrue (sym k.telling) told)));
          faults = subst (λ (p : ℕ × V). RoseBy p.0 (counts p.1).faults (counts s.station).faults) (λ i. (sym stops i, sym same.opening i)) (rose_further _ _ (counts r.opening).faults _ _ k.faults goes.faults);
          put_faults = subst (λ (n : ℕ). RoseBy n (counts o.station).put_faults (counts s.station).put_faults) (sym cuts) (rose_further _ _ (counts o.station).put_faults _ _ k.put_faults goes.put_faults);
          spends = (k.spends.0 + goes.spends.0, k.spends.1 + goes.spends.1, spends_then _ _ _ _ _ _ _ k.spends.2 goes.spends.2);
        };
        short = record {
          room = let n : length (records (log ++ added)) ≡ length (records log) + length (records added) = ap length (records-append log added) ∙ length-append (records log) (records added) in omega (arith, room, n, stops);
          once = omega (arith, once, stops);
          fits = goes.fits;
        };
      }

  -- Nothing is added.
  pub stays : (origins : List (State V)) (log : List Event) (r s : State V) → IsLocked tells content counts origins log r → Goes tells content counts [] r s → s.shut ≡ r.shut → IsLocked tells content counts origins log s
  stays origins log r s held goes shut =
      let k = held.stands in
      subst (λ (l : List Event). IsLocked tells content counts origins l s) (append-nil log)
      (goes_on origins log [] r s held goes
      ((λ h. omega (arith, k.shut.0 (sym shut ∙ h))), (λ h. shut ∙ k.shut.1 (omega (arith, h))))
      (ends_put log [] k.ends refl tt)
      (omega (arith, held.short.room, length-append log [])) (omega (arith, held.short.once)))

  -- Room is made.
  pub readied : (origins : List (State V)) (log : List Event) (r s : State V) → IsLocked tells content counts origins log r → IsSameRegister r s → s.station ≡ r.station → s.list ≡ r.list → s.shut ≡ r.shut → IsLocked tells content counts origins log s
  readied origins log r s held same station list shut =
      let f : (counts s.station).faults ≡ (counts r.station).faults = ap (λ (v : V). (counts v).faults) station in
      let p : (counts s.station).put_faults ≡ (counts r.station).put_faults = ap (λ (v : V). (counts v).put_faults) station in
      let n : length s.list ≡ length r.list = ap length list in
      let limit : limit_in s ≡ limit_in r = ap (λ (key : Identity). leaf_count key.height) same.identity in
      stays origins log r s held
      (record {
        same = same;
        list = list ∙ sym (append-nil r.list);
        telling = ap tells station;
        sent = λ _. subst (λ (v : V). HasSent [] (content r.station) (content v)) (sym station) (sent_none (content r.station));
        faults = omega (arith, f);
        put_faults = omega (arith, p);
        spends = (0, 0, subst (λ (v : V). Spends 0 0 (counts r.station) (counts v)) (sym station) (spends_none (counts r.station)));
        fits = omega (arith, n, limit, held.short.fits);
      }) shut

  -- Where a register isn't shut, its history has no stop.
  pub runs : (origins : List (State V)) (log : List Event) (r : State V) → IsLocked tells content counts origins log r → (r.shut ≡ true → ⊥) → stop_count log ≡ 0
  runs origins log r held open_ = by_count (stop_count log) refl
    where
      by_count : (n : ℕ) → stop_count log ≡ n → stop_count log ≡ 0
      by_count zero is = is
      by_count (suc n) is = absurd (open_ (held.stands.shut.1 (omega (arith, is))))

  -- A record is reserved.
  pub reserved_on : (origins : List (State V)) (log : List Event) (r s : State V) (kind : ℕ) (contents : List ℕ) → IsLocked tells content counts origins log r → (r.shut ≡ true → ⊥) → (s.shut ≡ true → ⊥)
      → Goes tells content counts (Reserved kind contents ∷ []) r s → IsLocked tells content counts origins (log ++ Reserved kind contents ∷ []) s
  reserved_on origins log r s kind contents held open_ still goes =
      let none : stop_count log ≡ 0 = runs origins log r held open_ in
      goes_on origins log (Reserved kind contents ∷ []) r s held goes
      ((λ h. absurd (still h)), (λ h. absurd (omega (arith, h, none))))
      (ends_running log (Reserved kind contents ∷ []) none tt)
      (omega (arith, held.short.room, length-append log (Reserved kind contents ∷ []))) (omega (arith, none))

  -- The station fails in a reservation.
  pub stopped_on : (origins : List (State V)) (log : List Event) (r s : State V) → IsLocked tells content counts origins log r → (r.shut ≡ true → ⊥) → s.shut ≡ true → Goes tells content counts (Stopped ∷ []) r s
      → IsLocked tells content counts origins (log ++ Stopped ∷ []) s
  stopped_on origins log r s held open_ shut goes =
      let none : stop_count log ≡ 0 = runs origins log r held open_ in
      goes_on origins log (Stopped ∷ []) r s held goes
      ((λ h. omega arith), (λ h. shut))
      (ends_running log (Stopped ∷ []) none refl)
      (omega (arith, held.short.room, length-append log (Stopped ∷ []))) (omega (arith, none))

  -- Octets are put.
  pub put_on : (origins : List (State V)) (log : List Event) (r s : State V) (octets : List ℕ) (whole : Bool) → IsLocked tells content counts origins log r → length log < 2 ^ 62 → s.shut ≡ r.shut
      → Goes tells content counts (Put octets whole ∷ []) r s → IsLocked tells content counts origins (log ++ Put octets whole ∷ []) s
  put_on origins log r s octets whole held room shut goes =
      goes_on origins log (Put octets whole ∷ []) r s held goes
      ((λ h. let k : 0 < stop_count log = held.stands.shut.0 (sym shut ∙ h) in omega (arith, k)), (λ h. shut ∙ held.stands.shut.1 (omega (arith, h))))
      (ends_put log (Put octets whole ∷ []) held.stands.ends refl tt)
      (omega (arith, room, length-append log (Put octets whole ∷ []))) (omega (arith, held.short.once))

-- What a register has when it begins to be shared.
first_is : (list : List Entry) (b : Bool) → (records (first_events list b) ≡ list) × (put_octets (first_events list b) ≡ []) × (cut_count (first_events list b) ≡ 0)
first_is list b = (
  records-append (reserved_all list) (stopped_if b) ∙ ap (λ (l : List Entry). l ++ records (stopped_if b)) (records-reserved_all list) ∙ ap (λ (l : List Entry). list ++ l) (none b) ∙ append-nil list,
  put_octets-append (reserved_all list) (stopped_if b) ∙ ap (λ (l : List ℕ). l ++ put_octets (stopped_if b)) (put_octets-reserved_all list) ∙ nothing b,
  omega (arith, cut_count-append (reserved_all list) (stopped_if b), cut_count-reserved_all list, uncut b),
)
  where
    none : (b : Bool) → records (stopped_if b) ≡ []
    none true = refl
    none false = refl

    nothing : (b : Bool) → put_octets (stopped_if b) ≡ []
    nothing true = refl
    nothing false = refl

    uncut : (b : Bool) → cut_count (stopped_if b) ≡ 0
    uncut true = refl
    uncut false = refl

first_stops : (list : List Entry) (b : Bool) → stop_count (first_events list b) ≡ bool_byte b
first_stops list true = omega (arith, stop_count-append (reserved_all list) (Stopped ∷ []), stop_count-reserved_all list)
first_stops list false = omega (arith, stop_count-append (reserved_all list) [], stop_count-reserved_all list)

pub length-first_events : (list : List Entry) (b : Bool) → length (first_events list b) ≡ length list + bool_byte b
length-first_events list true = omega (arith, length-append (reserved_all list) (Stopped ∷ []), length-reserved_all list)
length-first_events list false = omega (arith, length-append (reserved_all list) [], length-reserved_all list)

first_ends : (list : List Entry) (b : Bool) → EndsAtStop (first_events list b)
first_ends list true = ends_running (reserved_all list) (Stopped ∷ []) (stop_count-reserved_all list) refl
first_ends list false = ends_running (reserved_all list) [] (stop_count-reserved_all list) tt

-- The history of a register that begins to be shared.
pub begins_with : {V : Type 0} (tells : V → Bool) (content : V → Content) (counts : V → Counts) (allows : RuleIdentity → ℕ → List Entry → List ℕ → Type 0) (r : State V) → IsKept tells content counts allows r
    → (b : Bool) → r.shut ≡ b → IsLocked tells content counts (r ∷ []) (first_events r.list b) r
begins_with tells content counts allows r kept b is =
    let first = first_is r.list b in
    let n : length (records (first_events r.list b)) ≡ length r.list = ap length first.0 in
    record {
      origin = r;
      is = refl;
      stands = record {
        same = record { opening = refl; identity = refl; first = refl; base = refl };
        list = first.0;
        shut = rw (first_stops r.list b) (shut_if b is);
        ends = first_ends r.list b;
        telling = refl;
        sent = λ _. subst (λ (l : List ℕ). HasSent l (content r.station) (content r.station)) (sym first.1) (sent_none (content r.station));
        faults = rw (first_stops r.list b) (rose_if b is);
        put_faults = rw first.2 (omega arith);
        spends = (0, 0, spends_none (counts r.station));
      };
      short = record { room = omega (arith, n, length-first_events r.list b, first_stops r.list b); once = rw (first_stops r.list b) (at_most b); fits = kept.fits };
    }
  where
    shut_if : (b : Bool) → r.shut ≡ b → (r.shut ≡ true) ↔ (0 < bool_byte b)
    shut_if true is = ((λ _. omega arith), (λ _. is))
    shut_if false is = ((λ h. absurd (cc (is, h))), (λ h. absurd (omega (arith, h))))

    rose_if : (b : Bool) → r.shut ≡ b → RoseBy (bool_byte b) (counts r.opening).faults (counts r.station).faults
    rose_if true is = kept.shut is
    rose_if false is = omega (arith, kept.faults)

    at_most : (b : Bool) → bool_byte b ≤ 1
    at_most true = omega arith
    at_most false = omega arith
