use Rattle.std.proofs.Common.{◌≡◌, ◌≢◌, List, ℕ, rules, subst}
use Rattle.dv_cms.specs.Types.{signed_data_type}
use Rattle.dv_request.specs.Request.{request_data_type}
use Rattle.dv_answer.specs.Messages.{IsInfoOf}
use Rattle.dv_answer.proofs.MessageLemmas.{other_type}
use Rattle.dv_answer.proofs.ReplyLemmas.{unread_reply}
use Rattle.dv_answer.proofs.reply.reply_to_message.Goals as goal

pub returns-then-eq-clause-reply : goal.returns-then-eq-clause-reply
returns-then-eq-clause-reply g c = λ octets info.
    (let same : c.args.message.now.oid.now ≡ request_data_type = search rules in
    c.reply_to_content.ensures.reply octets (subst (λ (t : List ℕ). IsInfoOf t c.args.message.now.content.now octets) same info))

pub returns-then-eq-clause-steps : goal.returns-then-eq-clause-steps
returns-then-eq-clause-steps g c = λ octets info.
    (let same : c.args.message.now.oid.now ≡ request_data_type = search rules in
    c.reply_to_content.ensures.steps octets (subst (λ (t : List ℕ). IsInfoOf t c.args.message.now.content.now octets) same info))

pub returns-then-eq-2-clause-reply : goal.returns-then-eq-2-clause-reply
returns-then-eq-2-clause-reply g c = λ octets info.
    (let same : c.args.message.now.oid.now ≡ signed_data_type = search rules in
    c.reply_to_signed.ensures.reply octets (subst (λ (t : List ℕ). IsInfoOf t c.args.message.now.content.now octets) same info))

pub returns-then-eq-2-clause-steps : goal.returns-then-eq-2-clause-steps
returns-then-eq-2-clause-steps g c = λ octets info.
    (let same : c.args.message.now.oid.now ≡ signed_data_type = search rules in
    c.reply_to_signed.ensures.steps octets (subst (λ (t : List ℕ). IsInfoOf t c.args.message.now.content.now octets) same info))

pub returns-clause-reply : goal.returns-clause-reply
returns-clause-reply g c = λ octets info.
    (let other : c.args.message.now.oid.now ≢ request_data_type = search rules in
    let unsigned : c.args.message.now.oid.now ≢ signed_data_type = search rules in
    unread_reply octets c.args.moment c.args.server.now c.args.trust.now c.unread.result (other_type octets c.args.message.now.oid.now c.args.message.now.content.now info other unsigned) c.unread.ensures.0 c.unread.ensures.1)
