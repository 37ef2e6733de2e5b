use Rattle.std.proofs.Common.{rules, ◌≡◌, ◌∙◌, ◌+◌, ◌∷◌, [], List, ℕ, drop, take, suc, ap, sym, subst, refl, arith, Ok, Err}
use Rattle.dv_asn1.specs.Lists.{lists_of}
use Rattle.dv_session.specs.Issuing.{notary_of}
use Rattle.dv_session.specs.Requests.{IsRequest}
use Rattle.dv_answer.proofs.ListLemmas.{drop_item}
use Rattle.dv_session.proofs.AnswerLemmas.{holds_at, split_item, take_next}
use Rattle.dv_session.proofs.AnsweringLemmas.{answering_as, answering_more, answering_none, answering_stops, same_notary}
use Rattle.dv_session.proofs.serving.answer_requests.Goals as goal

pub loop-request-init : goal.loop-request-init
loop-request-init g c = record {
  answering = answering_none _ _ _ _ _ c.requires.open;
  is_open = c.requires.open;
  kept = c.requires.kept;
  same = record { opening = refl; identity = refl; first = refl; base = refl };
  tells = refl;
  clock_later = omega arith;
  put_later = omega arith;
  later = omega arith;
}

pub answer_one-requires-clause-request : goal.answer_one-requires-clause-request
answer_one-requires-clause-request g c =
    let requests = c.args.requests.now in
    let item = drop_item requests c.loop-request.request-index c.request-item.result c.loop-request-test.true c.request-item.is in
    subst IsRequest (sym c.deref.ensures.value) (holds_at IsRequest (lists_of requests) c.loop-request.request-index c.request-item.result.items _ c.requires.requests item)

pub returns-in_err-answer_one-clause-answers : goal.returns-in_err-answer_one-clause-answers
returns-in_err-answer_one-clause-answers g c =
    let inv = c.loop-request.invariant in
    let requests = c.args.requests.now in
    let server = c.args.desk.now.server in
    let anchors = c.args.desk.now.trust in
    let index = c.loop-request.request-index in
    let item = drop_item requests index c.request-item.result c.loop-request-test.true c.request-item.is in
    let end = c.in_err-answer_one.field-0.0 in
    let is : c.from_residual.result ≡ Err end = search rules in
    rw is
    (answering_stops _ (lists_of requests) (take index (lists_of requests)) (c.request-item.result.items ∷ []) (drop (suc index) (lists_of requests)) end
    _ _ _ _ _ _ _ _ _ _ (split_item (lists_of requests) index c.request-item.result.items _ item) c.in_err-answer_one.ensures.ends inv.answering
    (answering_as (notary_of server anchors c.loop-request.register) (notary_of server anchors c.args.register.now) (c.deref.result.now ∷ []) (c.request-item.result.items ∷ [])
    (Err end) _ _ _ _ _ _ _ _ (same_notary server anchors c.args.register.now c.loop-request.register inv.same) (ap (λ (o : List ℕ). o ∷ []) c.deref.ensures.value)
    inv.tells c.in_err-answer_one.ensures.answers))

pub loop-request-preserved : goal.loop-request-preserved
loop-request-preserved g c =
    let inv = c.loop-request.invariant in
    let requests = c.args.requests.now in
    let server = c.args.desk.now.server in
    let anchors = c.args.desk.now.trust in
    let index = c.loop-request.request-index in
    let item = drop_item requests index c.request-item.result c.loop-request-test.true c.request-item.is in
    let next = c.answer_one.ensures in
    record {
      answering = answering_more _ _ (take index (lists_of requests)) (c.request-item.result.items ∷ []) _ _ _ _ _ _ _ _ _ _
          (take_next (lists_of requests) index c.request-item.result.items _ item) inv.answering
          (answering_as (notary_of server anchors c.loop-request.register) (notary_of server anchors c.args.register.now) (c.deref.result.now ∷ []) (c.request-item.result.items ∷ [])
          (Ok tt) _ _ _ _ _ _ _ _ (same_notary server anchors c.args.register.now c.loop-request.register inv.same) (ap (λ (o : List ℕ). o ∷ []) c.deref.ensures.value)
          inv.tells c.in_ok-answer_one.ensures.answers);
      is_open = c.in_ok-answer_one.ensures.open;
      kept = next.kept;
      same = record {
        opening = next.same.opening ∙ inv.same.opening;
        identity = next.same.identity ∙ inv.same.identity;
        first = next.same.first ∙ inv.same.first;
        base = next.same.base ∙ inv.same.base;
      };
      tells = next.tells ∙ inv.tells;
      clock_later = omega (arith, inv.clock_later, next.clock_later);
      put_later = omega (arith, inv.put_later, next.put_later);
      later = omega (arith, inv.later, next.later);
    }
