-- What is sent over a run of calls, call by call.
use Rattle.std.proofs.Common.{◌≡◌, ◌∙◌, ⊎_elim, ℕ, ◌+◌, ◌≤◌, List, [], ◌++◌, length, take, ap, subst, sym, arith, append_assoc, length-append}
use Rattle.std.proofs.lemmas.List.{append-nil, take-append-le}
use Rattle.std.proofs.Math.Seq.{take-append-add}
use Rattle.std.specs.Prelude.{Result, Ok, Err}
use Rattle.dv_outside.specs.Station.{Content, Keeps, Puts, Silent}
use Rattle.dv_outside.proofs.Moments.{keeps_none, keeps_then, le_or_lt, sent_after, sent_at_end}
use Rattle.dv_session.specs.Sending.{Sends, SendsCut, SendsFrontOf}

-- ---- one call

-- before the first call nothing is sent
pub nothing_sent : (a : Content) → Sends [] a a
nothing_sent a = record {
  keeps = keeps_none a;
  sending = λ m lt le. absurd (omega (arith, lt, le));
  sent = sym (append-nil (a.sent a.moment));
}

-- nor in a silent call
pub silent_sends : (a b : Content) → Keeps a b → Silent a b → Sends [] a b
silent_sends a b keeps silent = record {
  keeps = keeps;
  sending = λ m lt le. (0, omega arith, silent m lt le ∙ sym (append-nil (a.sent a.moment)));
  sent = sent_at_end a b keeps silent ∙ sym (append-nil (a.sent a.moment));
}

-- a put that succeeds sends its piece
pub put_piece : {T E : Type 0} (x : T) (piece : List ℕ) (a b : Content) → Puts {T = T} {E = E} piece (Ok x) a b → Sends piece a b
put_piece x piece a b put = record { keeps = put.keeps; sending = put.sending; sent = put.whole }

-- one that fails sends a front of it
pub put_front : {T E : Type 0} (e : E) (piece : List ℕ) (a b : Content) → Puts {T = T} {E = E} piece (Err e) a b → SendsCut [] piece a b
put_front e piece a b put =
    let last = sent_after (Err e) piece a b put in
    record { keeps = put.keeps; sending = put.sending; count = last.0; within = last.1; sent = last.2 ∙ ap (λ (l : List ℕ). l ++ take last.0 piece) (sym (append-nil (a.sent a.moment))) }

-- ---- one run after another

-- at each moment a front of what both send is sent
fronts_then : (xs ys : List ℕ) (a b c : Content) → Sends xs a b → Keeps b c → SendsFrontOf ys b c → SendsFrontOf (xs ++ ys) a c
fronts_then xs ys a b c one keeps two = λ m lt le. ⊎_elim
    (λ early.
    let at = one.sending m lt early in
    (at.0, omega (arith, at.1, length-append xs ys), keeps.sent m early ∙ at.2 ∙ ap (λ (l : List ℕ). a.sent a.moment ++ l) (sym (take-append-le at.0 xs ys at.1))))
    (λ late.
    let at = two m late le in (
      length xs + at.0,
      omega (arith, at.1, length-append xs ys),
      at.2 ∙ ap (λ (l : List ℕ). l ++ take at.0 ys) one.sent ∙ append_assoc (a.sent a.moment) xs (take at.0 ys) ∙ ap (λ (l : List ℕ). a.sent a.moment ++ l) (sym (take-append-add xs ys at.0)),
    ))
    (le_or_lt m b.moment)

pub sends_then : (xs ys : List ℕ) (a b c : Content) → Sends xs a b → Sends ys b c → Sends (xs ++ ys) a c
sends_then xs ys a b c one two = record {
  keeps = keeps_then a b c one.keeps two.keeps;
  sending = fronts_then xs ys a b c one two.keeps two.sending;
  sent = two.sent ∙ ap (λ (l : List ℕ). l ++ ys) one.sent ∙ append_assoc (a.sent a.moment) xs ys;
}

pub cut_then : (xs ys piece : List ℕ) (a b c : Content) → Sends xs a b → SendsCut ys piece b c → SendsCut (xs ++ ys) piece a c
cut_then xs ys piece a b c one two = record {
  keeps = keeps_then a b c one.keeps two.keeps;
  sending = rw append_assoc (fronts_then xs (ys ++ piece) a b c one two.keeps two.sending);
  count = two.count;
  within = two.within;
  sent = two.sent ∙ ap (λ (l : List ℕ). l ++ take two.count piece) (ap (λ (l : List ℕ). l ++ ys) one.sent ∙ append_assoc (a.sent a.moment) xs ys);
}

-- ---- one call more

pub silent_sends_nothing : (octets : List ℕ) (a b c : Content) → Sends octets a b → Keeps b c → Silent b c → Sends octets a c
silent_sends_nothing octets a b c one keeps silent =
    subst (λ (l : List ℕ). Sends l a c) (append-nil octets) (sends_then octets [] a b c one (silent_sends b c keeps silent))

pub put_sends : {T E : Type 0} (x : T) (octets piece : List ℕ) (a b c : Content) → Sends octets a b → Puts {T = T} {E = E} piece (Ok x) b c
    → Sends (octets ++ piece) a c
put_sends {T = T} {E = E} x octets piece a b c one put = sends_then octets piece a b c one (put_piece {T = T} {E = E} x piece b c put)

pub failed_put_sends_a_front : {T E : Type 0} (e : E) (octets piece : List ℕ) (a b c : Content) → Sends octets a b → Puts {T = T} {E = E} piece (Err e) b c
    → SendsCut octets piece a c
failed_put_sends_a_front {T = T} {E = E} e octets piece a b c one put =
    subst (λ (l : List ℕ). SendsCut l piece a c) (append-nil octets) (cut_then octets [] piece a b c one (put_front {T = T} {E = E} e piece b c put))
