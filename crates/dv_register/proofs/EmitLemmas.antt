-- What a put leaves of a register.
use Rattle.std.proofs.Common.{◌≡◌, ◌∙◌, ℕ, Bool, IsTrue, List, ◌++◌, subst, sym, arith}
use Rattle.std.specs.Prelude.{Result}
use Rattle.dv_outside.specs.Causes.{HasCause, Rose}
use Rattle.dv_outside.specs.Station.{Content, Counts, Puts}
use Rattle.dv_outside.specs.Releases.{Identity as RuleIdentity, Entry}
use Rattle.dv_register.specs.State.{State, IsHeld, terms_of, rule_identity}
use Rattle.dv_register.specs.declared.place.Place.{Place}
use Rattle.dv_outside.proofs.Moments.{now_after}
use Rattle.dv_register.proofs.SafeLemmas.{safe_put}

pub held_put : {V T E : Type 0} (tells : V → Bool) (content : V → Content) (counts : V → Counts) (allows : RuleIdentity → ℕ → List Entry → List ℕ → Type 0)
    (grows : (i : RuleIdentity) (first : ℕ) (list more : List Entry) (o : List ℕ) → allows i first list o → allows i first (list ++ more) o)
    (s : State V) (limit gate : ℕ) (places : List Place) (octets : List ℕ) → IsHeld tells content counts allows s limit gate places octets
    → (station : V) (r : Result T E) (piece : List ℕ) → tells station ≡ tells s.station
    → (IsTrue (tells s.station) → allows (rule_identity s.identity) s.first s.list piece)
    → (IsTrue (tells s.station) → Puts piece r (content s.station) (content station))
    → HasCause (counts s.station).put_faults (counts station).put_faults r → (counts station).faults ≡ (counts s.station).faults
    → IsHeld tells content counts allows (record s { station = station }) limit gate places octets
held_put tells content counts allows grows s limit gate places octets held station r piece same allowed puts cause faults =
    record {
      kept = record {
        entries = held.kept.entries;
        fits = held.kept.fits;
        key = held.kept.key;
        serial = held.kept.serial;
        base = held.kept.base;
        faults = omega (arith, held.kept.faults, faults);
        shut = λ shut. subst (Rose (counts s.opening).faults) (sym faults) (held.kept.shut shut);
        safe = λ told_now.
            let told : IsTrue (tells s.station) = sym same ∙ told_now in
            safe_put (terms_of content counts allows s) (grows (rule_identity s.identity) s.first) r (content s.station) (content station)
            (counts s.station).put_faults (counts station).put_faults s.list piece (held.kept.safe told) (allowed told) (puts told) cause;
      };
      leaves = held.leaves;
      memory = held.memory;
      settled = λ told_now open_now.
          let told : IsTrue (tells s.station) = sym same ∙ told_now in
          let old = held.settled told open_now in
          let put = puts told in
          record {
            rest = old.rest;
            is = put.reads ∙ old.is;
            durable = λ b at. now_after (λ i. i ≡ (content s.station).reads) (content s.station) (content station) put.keeps old.durable
                (λ m lt le i here. old.durable i ((put.images m lt le i).0 here)) b at ∙ sym put.reads;
          };
    }
