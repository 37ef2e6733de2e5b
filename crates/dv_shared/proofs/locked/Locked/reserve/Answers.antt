use Rattle.std.proofs.Common.{◌≡◌, ◌↔◌, ⊎_elim, inl, inr, ◌++◌, ◌∷◌, [], length, ℕ, ◌+◌, true, false, IsTrue, refl, sym, ap, ◌∙◌, subst, Ok, Err, arith}
use Rattle.std.proofs.lemmas.List.{append-nil}
use Rattle.dv_lms.specs.Height.{leaf_count}
use Rattle.dv_lms.specs.Identity.{Identity}
use Rattle.dv_outside.specs.Station.{Leaves}
use Rattle.dv_shared.proofs.Sent.{sent_silent}
use Rattle.dv_shared.proofs.Standing.{readied, same_shut, stays, reserved_on, stopped_on}
use Rattle.dv_shared.proofs.Answering.{ok_answer, ok_receipt, full_answer, shut_answer, fault_answer, memory_answer}
use Rattle.dv_shared.proofs.locked.Locked.reserve.Goals as goal

pub invariant_of-self : goal.invariant_of-self
invariant_of-self g c =
    let p = c.prepare.ensures in
    rw c.look-pass.ensures.turn (readied g.V.Station.tells g.V.Station.content g.V.Station.counts _ _ _ _ c.self.invariant p.same p.station p.list p.shut)

pub invariant_of-self-in-Ok : goal.invariant_of-self-in-Ok
invariant_of-self-in-Ok g c =
    let p = c.prepare.ensures in
    let r = c.in-Ok.ensures in
    let held = readied g.V.Station.tells g.V.Station.content g.V.Station.counts _ _ _ _ c.self.invariant p.same p.station p.list p.shut in
    let running : c.prepare.new.self.shut ≡ true → ⊥ = λ h. absurd (cc (r.shut.1 h)) in
    rw c.add_reserved-pass.ensures.turn
    (reserved_on g.V.Station.tells g.V.Station.content g.V.Station.counts _ _ _ _ c.args.kind c.args.contents.now held running (λ h. ⊎_elim running (λ e. absurd (cc e)) (r.shuts.0 h))
    (record {
      same = r.same;
      list = r.reserved;
      telling = r.tells;
      sent = λ told. let l = r.images told in sent_silent _ _ l.keeps l.silent;
      faults = omega (arith, r.spends.later);
      put_faults = omega (arith, r.puts);
      spends = (6, length c.args.contents.now + 7, r.spends);
      fits = r.kept.fits;
    }))

pub invariant_of-self-in-Err-Full : goal.invariant_of-self-in-Err-Full
invariant_of-self-in-Err-Full g c =
    let p = c.prepare.ensures in
    let r = rw c.in-Err-Full.field-0-is at c.in-Err-Full.ensures in
    let held = readied g.V.Station.tells g.V.Station.content g.V.Station.counts _ _ _ _ c.self.invariant p.same p.station p.list p.shut in
    rw c.look-pass-in-Err-Full.ensures.turn
    (stays g.V.Station.tells g.V.Station.content g.V.Station.counts _ _ _ _ held
    (record {
      same = r.same;
      list = r.unchanged ∙ sym (append-nil _);
      telling = r.tells;
      sent = λ told. let l = r.images told in sent_silent _ _ l.keeps l.silent;
      faults = omega (arith, r.spends.later);
      put_faults = omega (arith, r.puts);
      spends = (6, length c.args.contents.now + 7, r.spends);
      fits = r.kept.fits;
    })
    (same_shut _ _ (λ h. ⊎_elim (λ s. s) (λ e. absurd (cc e)) (r.shuts.0 h)) (λ h. r.shuts.1 (inl h))))

pub invariant_of-self-in-Err-Shut : goal.invariant_of-self-in-Err-Shut
invariant_of-self-in-Err-Shut g c =
    let p = c.prepare.ensures in
    let r = rw c.in-Err-Shut.field-0-is at c.in-Err-Shut.ensures in
    let held = readied g.V.Station.tells g.V.Station.content g.V.Station.counts _ _ _ _ c.self.invariant p.same p.station p.list p.shut in
    rw c.look-pass-in-Err-Shut.ensures.turn
    (stays g.V.Station.tells g.V.Station.content g.V.Station.counts _ _ _ _ held
    (record {
      same = r.same;
      list = r.unchanged ∙ sym (append-nil _);
      telling = r.tells;
      sent = λ told. let l = r.images told in sent_silent _ _ l.keeps l.silent;
      faults = omega (arith, r.spends.later);
      put_faults = omega (arith, r.puts);
      spends = (6, length c.args.contents.now + 7, r.spends);
      fits = r.kept.fits;
    })
    (same_shut _ _ (λ h. ⊎_elim (λ s. s) (λ e. absurd (cc e)) (r.shuts.0 h)) (λ h. r.shuts.1 (inl h))))

pub invariant_of-self-in-Err-Fault : goal.invariant_of-self-in-Err-Fault
invariant_of-self-in-Err-Fault g c =
    let p = c.prepare.ensures in
    let r = rw c.in-Err-Fault.field-0-is at c.in-Err-Fault.ensures in
    let held = readied g.V.Station.tells g.V.Station.content g.V.Station.counts _ _ _ _ c.self.invariant p.same p.station p.list p.shut in
    rw c.add_stopped-pass.ensures.turn
    (stopped_on g.V.Station.tells g.V.Station.content g.V.Station.counts _ _ _ _ held (λ h. absurd (cc (r.shut.1 h))) (r.shuts.1 (inr refl))
    (record {
      same = r.same;
      list = r.unchanged ∙ sym (append-nil _);
      telling = r.tells;
      sent = λ told. let l = r.images told in sent_silent _ _ l.keeps l.silent;
      faults = r.fault refl;
      put_faults = omega (arith, r.puts);
      spends = (6, length c.args.contents.now + 7, r.spends);
      fits = r.kept.fits;
    }))

pub returns-in-Ok-clause-receipt : goal.returns-in-Ok-clause-receipt
returns-in-Ok-clause-receipt g c = λ o is.
    let p = c.prepare.ensures in
    let r = c.in-Ok.ensures in
    let held = readied g.V.Station.tells g.V.Station.content g.V.Station.counts _ _ _ _ c.self.invariant p.same p.station p.list p.shut in
    ok_receipt g.V.Station.tells g.V.Station.content g.V.Station.counts _ _ _ held o is _ _ _ c.args.kind c.args.contents.now c.reserve.new.self _ _ _ c.add_reserved-pass.ensures.pass c.new.ensures r.slot c.len-front.ensures.length r.reserved
