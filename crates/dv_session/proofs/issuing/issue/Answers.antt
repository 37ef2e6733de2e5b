use Rattle.std.proofs.Common.{◌≡◌, ◌≤◌, ◌+◌, ◌++◌, ◌∷◌, ◌∙◌, List, [], ℕ, length, refl, sym, ap, subst, arith}
use Rattle.std.proofs.lemmas.Result.{IfOk-weaker}
use Rattle.dv_outside.specs.Releases.{Entry}
use Rattle.dv_outside.specs.Station.{Spends}
use Rattle.dv_outside.proofs.Counting.{spends_less, spends_none}
use Rattle.dv_register.specs.State.{rule_identity}
use Rattle.dv_schema.specs.Fits.{Fits}
use Rattle.dv_draft.specs.Types.{draft as draft_type}
use Rattle.dv_draft.specs.Views.{view_draft}
use Rattle.dv_cert.specs.Rooms.{IsRoomOf}
use Rattle.dv_session.specs.Issuing.{entry_for, notice_for, view_issued}
use Rattle.dv_session.proofs.GivenLemmas.{IsReady, IsReserved, leaves_ready, refusal_given, slot_certificate, slot_given, slot_leaves}
use Rattle.dv_session.proofs.IssuingLemmas.{notice_leaves_if, refusal_known, spent_in_vain, spent_on_one}
use Rattle.dv_session.proofs.issuing.issue.Goals as goal

pub returns-in_err-prepare-clause-spends : goal.returns-in_err-prepare-clause-spends
returns-in_err-prepare-clause-spends g c =
    let counts = g.V.Station.counts in
    let old = c.args.register.now in
    let none : Spends 6 7 (counts old.station) (counts c.prepare.new.self.station) =
    subst (λ s. Spends 6 7 (counts old.station) (counts s)) (sym c.prepare.ensures.station) (spends_less 0 0 6 7 (counts old.station) (counts old.station) (omega arith) (omega arith) (spends_none (counts old.station))) in
    spent_in_vain 0 (counts old.station) (counts c.prepare.new.self.station) old.list c.prepare.new.self.list (omega arith) none c.prepare.ensures.list

pub returns-in-Ok-clause-given : goal.returns-in-Ok-clause-given
returns-in-Ok-clause-given g c = λ request moment is.
    (let old = c.args.register.now in
    let ready = c.prepare.new.self in
    let server = c.args.desk.now.server in
    let draft = c.args.draft.now in
    let kept : IsReady old ready = record { same = c.prepare.ensures.same; list = c.prepare.ensures.list; shut = c.prepare.ensures.shut; fits = c.len-front.ensures.kept.fits } in
    let same : c.deref.result.now ≡ (entry_for server draft).contents = c.deref.ensures.value ∙ c.in_ok-contents.ensures in
    let added = c.in-Ok.ensures.reserved ∙ ap (λ (o : List ℕ). ready.list ++ (record { kind = 2; contents = o }) ∷ []) same in
    let room = subst (IsRoomOf c.in_ok-room.room (view_draft draft)) c.as_slice.ensures c.in_ok-room.ensures in
    let sealed = c.certified.ensures.octets (view_draft draft) server.certificates room in
    let read = λ (f : Fits draft_type 32 (view_draft draft)). c.records_are_read_again.ensures server.certificates (view_draft draft) server.some server.few server.decoded f (omega (arith, c.requires.short)) in
    let certificate = slot_certificate server c.args.desk.now.trust draft old ready kept c.in-Ok.slot c.args.desk.now.key c.certified.result c.in-Ok.ensures.slot c.requires.key read sealed c.certified.ensures.bit c.certified.ensures.serial in
    let says : IsReserved ready c.reserve.new.self c.reserve.result = record { shut = c.reserve.ensures.shut; full = c.reserve.ensures.full; shuts = c.reserve.ensures.shuts } in
    slot_given request moment server c.args.desk.now.trust c.args.reply.now draft is c.requires.answer old ready c.reserve.new.self kept c.reserve.result says c.in-Ok.slot (view_issued c.certified.result) c.in-Ok.is added certificate)

pub returns-in-Ok-clause-allowed : goal.returns-in-Ok-clause-allowed
returns-in-Ok-clause-allowed g c = λ transaction.
    (let old = c.args.register.now in
    let ready = c.prepare.new.self in
    let server = c.args.desk.now.server in
    let draft = c.args.draft.now in
    let kept : IsReady old ready = record { same = c.prepare.ensures.same; list = c.prepare.ensures.list; shut = c.prepare.ensures.shut; fits = c.len-front.ensures.kept.fits } in
    let same : c.deref.result.now ≡ (entry_for server draft).contents = c.deref.ensures.value ∙ c.in_ok-contents.ensures in
    let added = c.in-Ok.ensures.reserved ∙ ap (λ (o : List ℕ). ready.list ++ (record { kind = 2; contents = o }) ∷ []) same in
    let room = subst (IsRoomOf c.in_ok-room.room (view_draft draft)) c.as_slice.ensures c.in_ok-room.ensures in
    let sealed = c.certified.ensures.octets (view_draft draft) server.certificates room in
    let read = λ (f : Fits draft_type 32 (view_draft draft)). c.records_are_read_again.ensures server.certificates (view_draft draft) server.some server.few server.decoded f (omega (arith, c.requires.short)) in
    let certificate = slot_certificate server c.args.desk.now.trust draft old ready kept c.in-Ok.slot c.args.desk.now.key c.certified.result c.in-Ok.ensures.slot c.requires.key read sealed c.certified.ensures.bit c.certified.ensures.serial in
    slot_leaves server c.args.desk.now.trust draft old ready c.reserve.new.self kept c.reserve.ensures.same c.certified.result added certificate)

pub returns-in-Ok-clause-images : goal.returns-in-Ok-clause-images
returns-in-Ok-clause-images g c = λ told.
    (let old = c.args.register.now in
    let ready = c.prepare.new.self in
    let kept : IsReady old ready = record { same = c.prepare.ensures.same; list = c.prepare.ensures.list; shut = c.prepare.ensures.shut; fits = c.len-front.ensures.kept.fits } in
    leaves_ready g.V.Station.content old ready (g.V.Station.content c.reserve.new.self.station) kept c.prepare.ensures.station
    (c.reserve.ensures.images (ap g.V.Station.tells c.prepare.ensures.station ∙ told)))

pub returns-in-Ok-clause-spends : goal.returns-in-Ok-clause-spends
returns-in-Ok-clause-spends g c =
    let counts = g.V.Station.counts in
    let old = c.args.register.now in
    let contents : List ℕ = c.deref.result.now in
    let same : contents ≡ (entry_for c.args.desk.now.server c.args.draft.now).contents = c.deref.ensures.value ∙ c.in_ok-contents.ensures in
    let few : length contents ≤ 1048576 = omega (arith, ap length same, c.requires.short) in
    let entry : Entry = record { kind = 2; contents = contents } in
    let spends = subst (λ s. Spends 6 (length contents + 7) (counts s) (counts c.reserve.new.self.station)) c.prepare.ensures.station c.reserve.ensures.spends in
    let added = c.in-Ok.ensures.reserved ∙ ap (λ (l : List Entry). l ++ entry ∷ []) c.prepare.ensures.list in
    spent_on_one (length contents) (counts old.station) (counts c.reserve.new.self.station) old.list c.reserve.new.self.list entry few spends added refl

pub returns-clause-given : goal.returns-clause-given
returns-clause-given g c = λ request moment is.
    (let old = c.args.register.now in
    let ready = c.prepare.new.self in
    let reply = c.args.reply.now in
    let kept : IsReady old ready = record { same = c.prepare.ensures.same; list = c.prepare.ensures.list; shut = c.prepare.ensures.shut; fits = c.len-front.ensures.kept.fits } in
    let says : IsReserved ready c.reserve.new.self c.reserve.result = record { shut = c.reserve.ensures.shut; full = c.reserve.ensures.full; shuts = c.reserve.ensures.shuts } in
    IfOk-weaker c.noticed.result _ _ (λ i told.
    refusal_given request moment c.args.desk.now.server c.args.desk.now.trust reply c.args.draft.now is c.requires.answer old ready c.reserve.new.self kept c.reserve.result says c.in-Err.refusal (view_issued i) c.in-Err.is
    c.in-Err.ensures.unchanged (told ∙ ap (notice_for reply) c.bit_of.ensures)) c.noticed.ensures.given)

pub returns-clause-allowed : goal.returns-clause-allowed
returns-clause-allowed g c = λ is.
    (let new = c.reserve.new.self in
    notice_leaves_if c.noticed.result (rule_identity new.identity) new.first new.list c.args.reply.now c.bit_of.result
    (subst (λ n. n ≤ 26) (sym c.bit_of.ensures) (refusal_known c.in-Err.refusal)) is c.noticed.ensures.given)

pub returns-clause-images : goal.returns-clause-images
returns-clause-images g c = λ told.
    (let old = c.args.register.now in
    let ready = c.prepare.new.self in
    let kept : IsReady old ready = record { same = c.prepare.ensures.same; list = c.prepare.ensures.list; shut = c.prepare.ensures.shut; fits = c.len-front.ensures.kept.fits } in
    leaves_ready g.V.Station.content old ready (g.V.Station.content c.reserve.new.self.station) kept c.prepare.ensures.station
    (c.reserve.ensures.images (ap g.V.Station.tells c.prepare.ensures.station ∙ told)))
