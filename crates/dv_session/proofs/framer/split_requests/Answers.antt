use Rattle.std.proofs.Common.{rules, ◌≡◌, ◌+◌, ◌++◌, IsTrue, length, ap, refl, arith, length-append}
use Rattle.std.specs.List.{concat}
use Rattle.dv_session.specs.declared.front.Front.TheVariants.{Bad}
use Rattle.dv_session.specs.declared.framer.Split.{Split}
use Rattle.dv_asn1.specs.Lists.{lists_of}
use Rattle.dv_session.proofs.FramerLemmas.{cut_more, cut_splits}
use Rattle.dv_session.proofs.framer.split_requests.Goals as goal

pub loop-end-preserved : goal.loop-end-preserved
loop-end-preserved c =
    cut_more _ _ c.loop-end.begun.now c.loop-end.ahead.now c.split_at.result.0.now c.split_at.result.1.now c.in-Some.end
    c.loop-end.requests.items c.push.new.self.items c.in_ok-joined_octets.field-0 c.loop-end.invariant c.in-Some.ensures.some
    c.split_at.ensures.front c.split_at.ensures.back c.in_ok-joined_octets.ensures c.in_ok-push.ensures.items

pub overflow_add-result : goal.overflow_add-result
overflow_add-result c =
    let cut = lists_of c.loop-end.requests.items in
    omega (
      arith,
      ap length c.loop-end.invariant.whole,
      length-append c.args.begun.now c.args.piece.now,
      length-append (concat cut) (c.loop-end.begun.now ++ c.loop-end.ahead.now),
      length-append c.loop-end.begun.now c.loop-end.ahead.now,
    )

pub returns : goal.returns
returns c =
    let is_bad : IsTrue c.eq.result → c.joined_header.result ≡ Bad = search rules in
    let bad_is : c.joined_header.result ≡ Bad → IsTrue c.eq.result = search rules in
    let split : Split = record {
      requests = c.loop-end.requests;
      ahead = c.loop-end.ahead;
      behind = length c.loop-end.begun.now + length c.loop-end.ahead.now;
      stops = c.eq.result;
    } in
    cut_splits c.args.begun.now c.args.piece.now c.loop-end.begun.now split c.joined_header.result c.loop-end.invariant refl is_bad bad_is
    c.joined_header.ensures c.in_default.ensures.none
