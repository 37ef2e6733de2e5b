-- What a run of calls sends, call by call.
use Rattle.std.proofs.Common.{◌≡◌, ◌∙◌, ⊎_elim, ℕ, List, [], ◌++◌, take, ap, subst, sym, arith}
use Rattle.std.proofs.lemmas.List.{append-nil}
use Rattle.std.specs.Prelude.{Result, Ok}
use Rattle.dv_outside.specs.Station.{Content, Keeps, Leaves, Puts, Silent}
use Rattle.dv_outside.proofs.Moments.{le_or_lt, keeps_none, keeps_then, sent_after, sent_at_end}
use Rattle.dv_session.specs.Sending.{Sends, SendsCut, SendsFrontOf}

-- a silent run sends nothing
pub sends_nothing : (a b : Content) → Keeps a b → Silent a b → Sends [] a b
sends_nothing a b keeps silent = record {
  keeps = keeps;
  sending = λ m lt le. (0, omega arith, silent m lt le ∙ sym (append-nil (a.sent a.moment)));
  sent = sent_at_end a b keeps silent ∙ sym (append-nil (a.sent a.moment));
}

-- no call
pub sends_none : (a : Content) → Sends [] a a
sends_none a = sends_nothing a a (keeps_none a) (λ m lt le. absurd (omega (arith, lt, le)))

-- a front of some octets after a silent run
front_after : (octets : List ℕ) (a b c : Content) → Keeps a b → Silent a b → Keeps b c → SendsFrontOf octets b c → SendsFrontOf octets a c
front_after octets a b c keeps silent more sending = λ m lt le. ⊎_elim
    (λ early. (0, omega arith, more.sent m early ∙ silent m lt early ∙ sym (append-nil (a.sent a.moment))))
    (λ late. let s = sending m late le in (s.0, s.1, s.2 ∙ ap (λ (l : List ℕ). l ++ take s.0 octets) (sent_at_end a b keeps silent)))
    (le_or_lt m b.moment)

-- what is sent after a silent run is sent in both together
pub sends_after : (octets : List ℕ) (a b c : Content) → Keeps a b → Silent a b → Sends octets b c → Sends octets a c
sends_after octets a b c keeps silent s = record {
  keeps = keeps_then a b c keeps s.keeps;
  sending = front_after octets a b c keeps silent s.keeps s.sending;
  sent = s.sent ∙ ap (λ (l : List ℕ). l ++ octets) (sent_at_end a b keeps silent);
}

pub cut_after : (octets piece : List ℕ) (a b c : Content) → Keeps a b → Silent a b → SendsCut octets piece b c → SendsCut octets piece a c
cut_after octets piece a b c keeps silent s = record {
  keeps = keeps_then a b c keeps s.keeps;
  sending = front_after (octets ++ piece) a b c keeps silent s.keeps s.sending;
  count = s.count;
  within = s.within;
  sent = s.sent ∙ ap (λ (l : List ℕ). l ++ octets ++ take s.count piece) (sent_at_end a b keeps silent);
}

-- a put sends its octets
pub put_sends : {T E : Type 0} (x : T) (octets : List ℕ) (a b : Content) → Puts {E = E} octets (Ok x) a b → Sends octets a b
put_sends x octets a b put = record { keeps = put.keeps; sending = put.sending; sent = put.whole }

-- and one that fails a front of them
pub put_cuts : {T E : Type 0} (r : Result T E) (octets : List ℕ) (a b : Content) → Puts octets r a b → SendsCut [] octets a b
put_cuts r octets a b put =
    let s = sent_after r octets a b put in
    record {
      keeps = put.keeps;
      sending = put.sending;
      count = s.0;
      within = s.1;
      sent = s.2 ∙ ap (λ (l : List ℕ). l ++ take s.0 octets) (sym (append-nil (a.sent a.moment)));
    }

module _ (P : List ℕ → Type 0) (octets signed : List ℕ) (a b c : Content) (run : Leaves P a b) (same : octets ≡ signed) where
  -- a put after a silent run
  pub then_sends : {T E : Type 0} (x : T) → Puts {E = E} octets (Ok x) b c → Sends signed a c
  then_sends x put = subst (λ (o : List ℕ). Sends o a c) same (sends_after octets a b c run.keeps run.silent (put_sends x octets b c put))

  pub then_cuts : {T E : Type 0} (r : Result T E) → Puts octets r b c → SendsCut [] signed a c
  then_cuts r put = subst (λ (o : List ℕ). SendsCut [] o a c) same (cut_after [] octets a b c run.keeps run.silent (put_cuts r octets b c put))
