use Rattle.std.proofs.Common.{◌≡◌, List, ◌++◌, ◌∷◌, [], length, ℕ, ◌+◌, true, false, IsTrue, refl, sym, ap, ◌∙◌, subst, Ok, Err, arith}
use Rattle.std.proofs.lemmas.List.{append-nil}
use Rattle.dv_outside.specs.Station.{Puts}
use Rattle.dv_register.specs.State.{State}
use Rattle.dv_shared.specs.Stands.{HasSent, gone_out}
use Rattle.dv_shared.proofs.Sent.{put_front, put_sent}
use Rattle.dv_shared.proofs.Standing.{put_on}
use Rattle.dv_shared.proofs.Answering.{adds_after, allowed_on, told_is}
use Rattle.dv_shared.proofs.locked.Locked.emit.Goals as goal

pub emit-requires : goal.emit-requires
emit-requires g c =
    let held = c.self.invariant in
    record {
      allowed = λ told. allowed_on g.V.Station.tells g.V.Station.content g.V.Station.counts _ _ _ held held.origin held.is g.P.Releases.allows g.P.Releases.grows _ _ c.look-pass.ensures.pass.begins
          (c.requires held.origin held.is (subst IsTrue held.stands.telling told));
    }

pub invariant_of-self-in-Ok : goal.invariant_of-self-in-Ok
invariant_of-self-in-Ok g c =
    let e = c.in-Ok.ensures in
    let r = c.self.inside.register in
    let content = g.V.Station.content r.station in
    let before : List ℕ = content.sent content.moment in
    let turn = c.look-pass.ensures.turn in
    rw (c.add_put-pass.ensures.turn, turn)
    (put_on g.V.Station.tells g.V.Station.content g.V.Station.counts _ _ _ _ c.args.octets.now true c.self.invariant (omega (arith, c.len.ensures, ap length turn, c.if-len-ge-MOST.false)) e.shut
    (record {
      same = e.same;
      list = e.list ∙ sym (append-nil r.list);
      telling = e.tells;
      sent = λ told. let p = e.sent told in record { keeps = p.keeps; sent = p.whole ∙ ap (λ (l : List ℕ). before ++ l) (sym (append-nil c.args.octets.now)) };
      faults = omega (arith, e.faults);
      put_faults = omega (arith, e.cause.later);
      spends = (1, length c.args.octets.now, e.spends);
      fits = e.kept.fits;
    }))

pub invariant_of-self-in-Err : goal.invariant_of-self-in-Err
invariant_of-self-in-Err g c =
    let e = c.in-Err.ensures in
    let r = c.self.inside.register in
    let turn = c.look-pass.ensures.turn in
    let was = ap (λ (s : State g.row.V.Denot). gone_out (g.V.Station.content s.station) (g.V.Station.content c.emit.new.self.station)) c.of-before.ensures in
    rw (c.add_cut-pass.ensures.turn, turn, was)
    (put_on g.V.Station.tells g.V.Station.content g.V.Station.counts _ _ _ _ _ false c.self.invariant (omega (arith, c.len.ensures, ap length turn, c.if-len-ge-MOST.false)) e.shut
    (record {
      same = e.same;
      list = e.list ∙ sym (append-nil r.list);
      telling = e.tells;
      sent = λ told. subst (λ (l : List ℕ). HasSent l (g.V.Station.content r.station) (g.V.Station.content c.emit.new.self.station)) (sym (append-nil _)) (put_sent _ _ _ _ (e.sent told));
      faults = omega (arith, e.faults);
      put_faults = e.cause.failed;
      spends = (1, length c.args.octets.now, e.spends);
      fits = e.kept.fits;
    }))

pub returns : goal.returns
returns g c = λ o is.
    let e = c.in-Err.ensures in
    let turn = c.look-pass.ensures.turn in
    let was = ap (λ (s : State g.row.V.Denot). gone_out (g.V.Station.content s.station) (g.V.Station.content c.emit.new.self.station)) c.of-before.ensures in
    let out = gone_out (g.V.Station.content c.self.inside.register.station) (g.V.Station.content c.emit.new.self.station) in (
      _,
      _,
      adds_after _ _ _ _ _ _ c.look-pass.ensures.pass (rw (turn, was) at c.add_cut-pass.ensures.pass),
      (out, refl, (λ told. put_front _ _ _ _ (e.sent (told_is g.V.Station.tells g.V.Station.content g.V.Station.counts _ _ _ c.self.invariant o is told))), omega (arith, c.len.ensures, ap length turn, c.if-len-ge-MOST.false)),
    )
