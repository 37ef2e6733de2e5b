-- What a reservation leaves of a register.
use Rattle.std.proofs.Common.{◌≡◌, ◌∙◌, ℕ, ◌+◌, ◌<◌, ◌≤◌, Bool, true, false, IsTrue, List, [], ◌∷◌, ◌++◌, length, take, subst, ap, refl, sym, arith, append_assoc, length-append}
use Rattle.std.proofs.lemmas.List.{take_at, take-append-le, append-nil}
use Rattle.std.specs.List.{AllByRecursion}
use Rattle.dv_outside.specs.Causes.{Rose}
use Rattle.dv_outside.specs.Station.{Content, Counts, Leaves}
use Rattle.dv_outside.specs.Releases.{Identity as RuleIdentity, Entry}
use Rattle.dv_outside.proofs.Moments.{leaves_none, leaves_weaker}
use Rattle.dv_register.specs.Layout.{IsEntry, body_of, records_of, open_gate, SoundFor}
use Rattle.dv_register.specs.Steps.{BeforeOrAfter, IsAppended}
use Rattle.dv_register.specs.Safe.{IsSettled, IsSafe}
use Rattle.dv_register.specs.State.{State, IsKept, IsHeld, IsInMemory, head_in, limit_in, terms_of, rule_identity}
use Rattle.dv_register.specs.declared.place.Place.{Place}
use Rattle.dv_register.specs.State.{entries_of}
use Rattle.dv_register.proofs.MemoryLemmas.{entries_of-push, within_note}
use Rattle.dv_register.proofs.SafeLemmas.{safe_silent, safe_longer, sound_closed, step_sound, all_push, records_of-push}

module _ {V : Type 0} (tells : V → Bool) (content : V → Content) (counts : V → Counts) (allows : RuleIdentity → ℕ → List Entry → List ℕ → Type 0)
    (grows : (i : RuleIdentity) (first : ℕ) (list more : List Entry) (o : List ℕ) → allows i first list o → allows i first (list ++ more) o) where
  pub none_used : (s : State V) → IsKept tells content counts allows s → IsTrue (tells s.station) → Leaves (SoundFor (head_in s) (limit_in s) s.list) (content s.station) (content s.station)
  none_used s kept told = leaves_none (SoundFor (head_in s) (limit_in s) s.list) (content s.station) (kept.safe told).present

  module _ (s : State V) (limit gate : ℕ) (places : List Place) (octets : List ℕ) (held : IsHeld tells content counts allows s limit gate places octets)
      (open_now : s.shut ≡ false) (e : Entry) (entry : IsEntry e) (room : length s.list < limit_in s) (station : V) (same : tells station ≡ tells s.station)
      (images : IsTrue (tells s.station) → Leaves (BeforeOrAfter gate (content s.station).reads e) (content s.station) (content station))
      (puts : (counts station).put_faults ≡ (counts s.station).put_faults) where
    step : IsTrue (tells s.station) → (b : List ℕ) → BeforeOrAfter gate (content s.station).reads e b → SoundFor (head_in s) (limit_in s) s.list b
    step told b at =
        let settled = held.settled told open_now in
        step_sound (head_in s) (limit_in s) s.list held.kept.entries held.kept.fits e entry room (content s.station).reads b settled.rest gate settled.is held.memory.place at

    pub call_images : IsTrue (tells s.station) → Leaves (SoundFor (head_in s) (limit_in s) s.list) (content s.station) (content station)
    call_images told = leaves_weaker (BeforeOrAfter gate (content s.station).reads e) (SoundFor (head_in s) (limit_in s) s.list) (content s.station) (content station) (step told) (images told)

    call_safe : IsTrue (tells station) → IsSafe (terms_of content counts allows s) (content station) (counts station).put_faults s.list
    call_safe told_now =
        let told : IsTrue (tells s.station) = sym same ∙ told_now in
        subst (λ n. IsSafe (terms_of content counts allows s) (content station) n s.list) (sym puts)
        (safe_silent (terms_of content counts allows s) (grows (rule_identity s.identity) s.first) (BeforeOrAfter gate (content s.station).reads e) (content s.station) (content station)
        (counts s.station).put_faults s.list (held.kept.safe told) (images told) (step told))

    -- after a fault
    pub held_shut : (counts s.station).faults ≤ (counts station).faults → Rose (counts s.station).faults (counts station).faults → IsHeld tells content counts allows (record s { station = station; shut = true }) limit gate places octets
    held_shut later rose = record {
      kept = record {
        entries = held.kept.entries;
        fits = held.kept.fits;
        key = held.kept.key;
        serial = held.kept.serial;
        base = held.kept.base;
        faults = omega (arith, held.kept.faults, later);
        shut = λ _. omega (arith, held.kept.faults, rose);
        safe = call_safe;
      };
      leaves = held.leaves;
      memory = held.memory;
      settled = λ told shut. absurd (cc);
    }

    -- after an Ok
    pub held_longer : (list : List Entry) (spare gate' : ℕ) (places' : List Place) (octets' : List ℕ) → (counts s.station).faults ≤ (counts station).faults → list ≡ s.list ++ e ∷ []
        → IsInMemory list (head_in s) gate' places' octets'
        → (IsTrue (tells s.station) → IsAppended gate (content s.station).reads e (content station))
        → IsHeld tells content counts allows (record s { station = station; list = list; spare = spare }) limit gate' places' octets'
    held_longer list spare gate' places' octets' later is memory appended =
        let head = head_in s in
        let front = head ++ records_of s.list in
        let longer_entries : AllByRecursion IsEntry list = subst (AllByRecursion IsEntry) (sym is) (all_push IsEntry s.list e held.kept.entries entry) in
        let longer_fits : length list ≤ limit_in s = omega (arith, room, ap length is, length-append s.list (e ∷ [])) in
        let base_same : take s.base list ≡ take s.base s.list = ap (take s.base) is ∙ take-append-le s.base s.list (e ∷ []) held.kept.base in
        let settle : IsTrue (tells station) → IsSettled (content station) head list = λ told_now.
        let told : IsTrue (tells s.station) = sym same ∙ told_now in
        let old = held.settled told open_now in
        let app = appended told in
        let at_gate : take gate (content s.station).reads ≡ front = ap (take gate) old.is ∙ take_at front (0 ∷ old.rest) gate held.memory.place in
        record {
          rest = app.rest;
          is = app.is
              ∙ ap (λ (l : List ℕ). l ++ open_gate ∷ body_of e ++ 0 ∷ app.rest) at_gate
              ∙ ap (λ (l : List ℕ). l ++ 0 ∷ app.rest) (append_assoc head (records_of s.list) (open_gate ∷ body_of e) ∙ ap (λ (l : List ℕ). head ++ l) (sym (records_of-push s.list e) ∙ ap records_of (sym is)));
          durable = app.durable;
        } in
        record {
          kept = record {
            entries = longer_entries;
            fits = longer_fits;
            key = held.kept.key;
            serial = held.kept.serial;
            base = omega (arith, held.kept.base, ap length is, length-append s.list (e ∷ []));
            faults = omega (arith, held.kept.faults, later);
            shut = λ shut. absurd (cc);
            safe = λ told_now.
                let set = settle told_now in
                let terms = terms_of content counts allows s in
                subst (λ (base : List Entry). IsSafe (record terms { base = base }) (content station) (counts station).put_faults list) (sym base_same)
                (safe_longer terms (grows (rule_identity s.identity) s.first) (content station) (counts station).put_faults s.list list (call_safe told_now) (e ∷ [], is)
                (λ b at. (list, sound_closed head (limit_in s) list longer_entries longer_fits b set.rest (set.durable b at ∙ set.is), ([], sym (append-nil list)))));
          };
          leaves = held.leaves;
          memory = memory;
          settled = λ told_now shut. settle told_now;
        }

-- the memory with one more copy
pub memory_longer : (list : List Entry) (head : List ℕ) (gate : ℕ) (places : List Place) (octets : List ℕ) (e : Entry) → IsInMemory list head gate places octets → (places' : List Place) (octets' : List ℕ)
    → places' ≡ places ++ (record { kind = e.kind; from = length octets; len = length e.contents }) ∷ [] → octets' ≡ octets ++ e.contents
    → (entries_of places' octets' ≡ list ++ e ∷ []) × IsInMemory (entries_of places' octets') head (gate + (6 + length e.contents)) places' octets'
memory_longer list head gate places octets e memory places' octets' at_places at_octets =
    let is : entries_of places' octets' ≡ list ++ e ∷ [] =
    ap (λ (l : List Place). entries_of l octets') at_places
    ∙ ap (entries_of (places ++ (record { kind = e.kind; from = length octets; len = length e.contents }) ∷ [])) at_octets
    ∙ entries_of-push places octets e.contents e.kind memory.within
    ∙ ap (λ (l : List Entry). l ++ e ∷ []) (sym memory.list) in (
      is,
      record {
        place = omega (arith, memory.place, length-append head (records_of list), length-append head (records_of (entries_of places' octets')), ap (λ (l : List Entry). length (records_of l)) is, length-records_of-push list e);
        within = subst (λ (l : List Place). AllByRecursion (λ p. p.from + p.len ≤ length octets') l) (sym at_places)
            (subst (λ (o : List ℕ). AllByRecursion (λ p. p.from + p.len ≤ length o) (places ++ (record { kind = e.kind; from = length octets; len = length e.contents }) ∷ [])) (sym at_octets) (within_note places octets e.contents e.kind memory.within));
        list = refl;
      },
    )
  where
    length-records_of-push : (list : List Entry) (e : Entry) → length (records_of (list ++ e ∷ [])) ≡ length (records_of list) + (6 + length e.contents)
    length-records_of-push list e = omega (arith, ap length (records_of-push list e), length-append (records_of list) (open_gate ∷ body_of e))
