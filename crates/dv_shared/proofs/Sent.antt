-- What is sent over a run of calls.
use Rattle.std.proofs.Common.{◌≡◌, ◌∙◌, ℕ, ◌≤◌, List, [], ◌++◌, length, take, drop, ap, sym, append_assoc}
use Rattle.std.proofs.lemmas.List.{append-nil}
use Rattle.std.proofs.Math.Seq.{drop-append_seam}
use Rattle.std.specs.Prelude.{Result}
use Rattle.dv_outside.specs.Station.{Content, Keeps, Puts, Silent}
use Rattle.dv_outside.proofs.Moments.{keeps_none, keeps_then, sent_after, sent_at_end}
use Rattle.dv_shared.specs.Stands.{HasSent, gone_out}

pub sent_none : (a : Content) → HasSent [] a a
sent_none a = record { keeps = keeps_none a; sent = sym (append-nil (a.sent a.moment)) }

pub sent_silent : (a b : Content) → Keeps a b → Silent a b → HasSent [] a b
sent_silent a b keeps silent = record { keeps = keeps; sent = sent_at_end a b keeps silent ∙ sym (append-nil (a.sent a.moment)) }

pub sent_then : (xs ys : List ℕ) (a b c : Content) → HasSent xs a b → HasSent ys b c → HasSent (xs ++ ys) a c
sent_then xs ys a b c one two = record {
  keeps = keeps_then a b c one.keeps two.keeps;
  sent = two.sent ∙ ap (λ (l : List ℕ). l ++ ys) one.sent ∙ append_assoc (a.sent a.moment) xs ys;
}

-- A put sends a front of its octets.
pub put_front : {T E : Type 0} (r : Result T E) (octets : List ℕ) (a b : Content) → Puts octets r a b → (k : ℕ) × (k ≤ length octets) × (gone_out a b ≡ take k octets)
put_front r octets a b put =
    let part = sent_after r octets a b put in
    (part.0, part.1, ap (λ (l : List ℕ). drop (length (a.sent a.moment)) l) part.2 ∙ drop-append_seam (a.sent a.moment) (take part.0 octets))

pub put_sent : {T E : Type 0} (r : Result T E) (octets : List ℕ) (a b : Content) → Puts octets r a b → HasSent (gone_out a b) a b
put_sent r octets a b put =
    let part = sent_after r octets a b put in
    let gone : gone_out a b ≡ take part.0 octets = ap (λ (l : List ℕ). drop (length (a.sent a.moment)) l) part.2 ∙ drop-append_seam (a.sent a.moment) (take part.0 octets) in
    record { keeps = put.keeps; sent = part.2 ∙ ap (λ (l : List ℕ). a.sent a.moment ++ l) (sym gone) }
