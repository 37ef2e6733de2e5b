use Rattle.std.proofs.Common.{◌≡◌, ◌≢◌, ◌+◌, ℕ, List, [], ◌∷◌, length, take, arith, refl, sym, ap, subst, ◌∙◌, false}
use Rattle.std.proofs.Common.{eqb, Ok, Err, ⊎_elim}
use Rattle.std.proofs.lemmas.Bool.Decides.{eqb_tells}
use Rattle.std.proofs.lemmas.List.{length-take, length-take-le}
use Rattle.dv_asn1.specs.Lists.{lists_of}
use Rattle.dv_session.specs.Issuing.{book_of, notary_of}
use Rattle.dv_session.specs.Serving.{HasTaken}
use Rattle.dv_session.specs.Progress.{Progress}
use Rattle.dv_session.proofs.AnsweringLemmas.{answering_as, same_notary}
use Rattle.dv_session.proofs.RunLemmas.{Going, going_none, going_on, going_more, serves_input, serves_cut, serves_refused, serves_read, serves_limit, serves_memory, serves_stop, is_stop}
use Rattle.dv_session.proofs.serving.serve_by.Goals as goal

-- a count of octets that isn't zero isn't the end
not_zero : (n : ℕ) → n ≢ 0 → eqb n 0 ≡ false
not_zero n other = ⊎_elim (λ is. absurd (other is.1)) (λ not. not.0) (eqb_tells n 0)

-- no octets of a buffer
none_of : (n : ℕ) (buffer : List ℕ) → n ≡ 0 → take n buffer ≡ []
none_of n buffer none = ap (λ (k : ℕ). take k buffer) none

pub loop-taken-init : goal.loop-taken-init
loop-taken-init g c = record {
  bound = omega arith;
  on = ap (λ (p : Progress). p.stopped) c.new-framer.ensures;
  not_end = λ lt. absurd (omega (arith, lt));
  going = subst (λ (p : Progress). Going (notary_of c.args.desk.now.server c.args.desk.now.trust c.args.register.now) (g.S.Source.left c.args.source.now) (g.S.Source.left c.args.source.now) p
      (g.C.Clock.told c.args.clock.now) (g.C.Clock.told c.args.clock.now) (book_of c.args.register.now) (book_of c.args.register.now)
      (g.V.Station.tells c.args.register.now.station) (g.V.Station.content c.args.register.now.station) (g.V.Station.content c.args.register.now.station) 0)
      (sym c.new-framer.ensures) (going_none _ _ _ _ _ _ c.requires.open);
  is_open = c.requires.open;
  kept = c.requires.kept;
  same = record { opening = refl; identity = refl; first = refl; base = refl };
  tells = refl;
  source_later = omega arith;
  clock_later = omega arith;
  put_later = omega arith;
  later = omega arith;
}

pub returns-in-Ok-eq0-clause-run : goal.returns-in-Ok-eq0-clause-run
returns-in-Ok-eq0-clause-run g c =
    let inv = c.loop-taken.invariant in
    let none = subst (λ (octets : List ℕ). HasTaken (g.S.Source.left c.loop-taken.source) (g.S.Source.left c.read_some.new.source) octets) (none_of c.in-Ok-eq0.field-0 c.read_some.new.buffer c.in-Ok-eq0.field-0-test) c.in-Ok-eq0.ensures.content in
    serves_input _ _ _ _ _ _ _ _ _ _ _ c.loop-taken.taken (going_on _ _ _ _ _ _ _ _ _ _ _ _ _ inv.going none) _ inv.bound (sym c.rest.ensures ∙ c.if-rest-eq0.true)
    (c.in-Ok-eq0.ensures.ended ∙ ap (λ (n : ℕ). eqb n 0) c.in-Ok-eq0.field-0-test)

pub returns-in-Ok-eq0-2-clause-run : goal.returns-in-Ok-eq0-2-clause-run
returns-in-Ok-eq0-2-clause-run g c =
    let inv = c.loop-taken.invariant in
    let none = subst (λ (octets : List ℕ). HasTaken (g.S.Source.left c.loop-taken.source) (g.S.Source.left c.read_some.new.source) octets) (none_of c.in-Ok-eq0.field-0 c.read_some.new.buffer c.in-Ok-eq0.field-0-test) c.in-Ok-eq0.ensures.content in
    serves_cut _ _ _ _ _ _ _ _ _ _ _ c.loop-taken.taken (going_on _ _ _ _ _ _ _ _ _ _ _ _ _ inv.going none) _ inv.bound (λ e. c.if-rest-eq0.false (c.rest.ensures ∙ e))
    (c.in-Ok-eq0.ensures.ended ∙ ap (λ (n : ℕ). eqb n 0) c.in-Ok-eq0.field-0-test)

pub returns-in-Err-clause-run : goal.returns-in-Err-clause-run
returns-in-Err-clause-run g c =
    let inv = c.loop-taken.invariant in
    serves_read _ _ _ _ _ _ _ _ _ _ _ c.loop-taken.taken (going_on _ _ _ _ _ _ _ _ _ _ _ _ _ inv.going c.in-Err.ensures.content) _ inv.bound inv.on c.in-Err.ensures.ended

pub returns-in-Err-feed-clause-run : goal.returns-in-Err-feed-clause-run
returns-in-Err-feed-clause-run g c =
    let inv = c.loop-taken.invariant in
    let piece = take c.in-Ok.n c.read_some.new.buffer in
    serves_memory _ _ _ _ _ _ _ _ _ _ _ c.loop-taken.taken inv.going _ _ piece c.in-Ok.ensures.content
    (omega (arith, c.in-Ok.ensures.bound.0, c.loop-taken-test.true, length-take c.in-Ok.n c.read_some.new.buffer))

pub returns-in-Err-answer_requests-clause-run : goal.returns-in-Err-answer_requests-clause-run
returns-in-Err-answer_requests-clause-run g c =
    let inv = c.loop-taken.invariant in
    let piece = take c.in-Ok.n c.read_some.new.buffer in
    let server = c.args.desk.now.server in
    let anchors = c.args.desk.now.trust in
    serves_stop _ _ _ _ _ _ _ c.in-Ok-feed.fed _ _ _ _ _ _ _ _ _ _ _ c.loop-taken.taken piece inv.going c.in-Ok.ensures.content c.in-Ok-feed.ensures.ok
    (omega (arith, c.in-Ok.ensures.bound.0, c.loop-taken-test.true, length-take c.in-Ok.n c.read_some.new.buffer))
    (answering_as (notary_of server anchors c.loop-taken.register) (notary_of server anchors c.args.register.now) (lists_of c.as_slice.result.now) c.in-Ok-feed.fed.requests
    (Err c.in-Err-answer_requests.end) _ _ _ _ _ _ _ _ (same_notary server anchors c.args.register.now c.loop-taken.register inv.same) c.as_slice.ensures inv.tells
    c.in-Err-answer_requests.ensures.answers) c.in-Err-answer_requests.ensures.ends

pub returns-then-is_some-clause-run : goal.returns-then-is_some-clause-run
returns-then-is_some-clause-run g c =
    let inv = c.loop-taken.invariant in
    let piece = take c.in-Ok.n c.read_some.new.buffer in
    let server = c.args.desk.now.server in
    let anchors = c.args.desk.now.trust in
    let going = going_more _ _ _ _ _ _ c.in-Ok-feed.fed _ _ _ _ _ _ _ _ _ _ c.loop-taken.taken piece inv.going c.in-Ok.ensures.content c.in-Ok-feed.ensures.ok
    (answering_as (notary_of server anchors c.loop-taken.register) (notary_of server anchors c.args.register.now) (lists_of c.as_slice.result.now) c.in-Ok-feed.fed.requests
    (Ok tt) _ _ _ _ _ _ _ _ (same_notary server anchors c.args.register.now c.loop-taken.register inv.same) c.as_slice.ensures inv.tells
    c.in-Ok-answer_requests.ensures.answers) in
    serves_refused _ _ _ _ _ _ _ _ _ _ _ (c.loop-taken.taken + length piece) going _
    (omega (arith, c.in-Ok.ensures.bound.0, c.loop-taken-test.true, length-take c.in-Ok.n c.read_some.new.buffer))
    (is_stop c.feed.new.self _ _ c.in-Ok-feed.ensures.ok.stop c.is_some.ensures ∙ c.if-is_some.true)

pub loop-taken-preserved : goal.loop-taken-preserved
loop-taken-preserved g c =
    let inv = c.loop-taken.invariant in
    let piece = take c.in-Ok.n c.read_some.new.buffer in
    let server = c.args.desk.now.server in
    let anchors = c.args.desk.now.trust in
    let size : length piece ≡ c.in-Ok.n = length-take-le c.in-Ok.n c.read_some.new.buffer c.in-Ok.ensures.bound.1 in
    let next = c.answer_requests.ensures in
    record {
      bound = omega (arith, c.in-Ok.ensures.bound.0, c.loop-taken-test.true);
      on = is_stop c.feed.new.self _ _ c.in-Ok-feed.ensures.ok.stop c.is_some.ensures ∙ c.if-is_some.false;
      not_end = λ lt. c.in-Ok.ensures.ended ∙ not_zero c.in-Ok.n c.in-Ok.n-test.1;
      going = subst (λ (n : ℕ). Going (notary_of server anchors c.args.register.now) (g.S.Source.left c.args.source.now) (g.S.Source.left c.read_some.new.source) c.feed.new.self
          (g.C.Clock.told c.args.clock.now) (g.C.Clock.told c.answer_requests.new.clock) (book_of c.args.register.now) (book_of c.answer_requests.new.register)
          (g.V.Station.tells c.args.register.now.station) (g.V.Station.content c.args.register.now.station)
          (g.V.Station.content c.answer_requests.new.register.station) (c.loop-taken.taken + n)) size
          (going_more _ _ _ _ _ _ c.in-Ok-feed.fed _ _ _ _ _ _ _ _ _ _ c.loop-taken.taken piece inv.going c.in-Ok.ensures.content c.in-Ok-feed.ensures.ok
          (answering_as (notary_of server anchors c.loop-taken.register) (notary_of server anchors c.args.register.now) (lists_of c.as_slice.result.now) c.in-Ok-feed.fed.requests
          (Ok tt) _ _ _ _ _ _ _ _ (same_notary server anchors c.args.register.now c.loop-taken.register inv.same) c.as_slice.ensures inv.tells
          c.in-Ok-answer_requests.ensures.answers));
      is_open = c.in-Ok-answer_requests.ensures.open;
      kept = next.kept;
      same = record {
        opening = next.same.opening ∙ inv.same.opening;
        identity = next.same.identity ∙ inv.same.identity;
        first = next.same.first ∙ inv.same.first;
        base = next.same.base ∙ inv.same.base;
      };
      tells = next.tells ∙ inv.tells;
      source_later = omega (arith, inv.source_later, c.read_some.ensures.cause.later);
      clock_later = omega (arith, inv.clock_later, next.clock_later);
      put_later = omega (arith, inv.put_later, next.put_later);
      later = omega (arith, inv.later, next.later);
    }

pub returns-clause-run : goal.returns-clause-run
returns-clause-run g c =
    let inv = c.loop-taken.invariant in
    serves_limit _ _ _ _ _ _ _ _ _ _ _ c.loop-taken.taken inv.going _ (omega (arith, inv.bound, c.loop-taken-test.false)) inv.on (inv.not_end (omega (arith, c.loop-taken-test.false)))
