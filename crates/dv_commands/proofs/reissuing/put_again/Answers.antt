use Rattle.std.proofs.Common.{◌∙◌, ℕ, List, Some, Result, Err, ap, subst, sym}
use Rattle.std.proofs.lemmas.Result.{err_from_is_err_and}
use Rattle.dv_commands.specs.Answers.{PutsAgain}
use Rattle.dv_commands.specs.declared.refusals.Reissue.{Reissue}
use Rattle.dv_commands.proofs.AnswerLemmas.{not_remade, remade_cut, remade_put, rose_before}
use Rattle.dv_commands.proofs.CertificateLemmas.{may_leave, may_leave_same}
use Rattle.dv_commands.proofs.reissuing.put_again.Goals as goal

pub returns-in_err-octets-clause-puts : goal.returns-in_err-octets-clause-puts
returns-in_err-octets-clause-puts g c =
    let old = c.args.register.now in
    let p = err_from_is_err_and c.from_residual.result c.from_residual.ensures.1 in
    subst (λ (r : Result (Unit {0}) Reissue). PutsAgain g.V.Station.tells g.V.Station.content g.V.Station.counts c.args.key.now old.first old.list c.args.serial old.station c.remade.new.register.station r)
    (sym (p.1 ∙ ap (λ (e : Reissue). Err e) p.2))
    (not_remade g.V.Station.tells g.V.Station.content g.V.Station.counts c.args.key.now old.first old.list c.args.serial c.in-Some.index old.station c.remade.new.register.station
    c.in-Some.ensures.index.1 c.remade.ensures.looks c.in_err-octets.field-0.0 c.in_err-octets.ensures.certificate)

pub emit-requires : goal.emit-requires
emit-requires g c =
    let key = c.args.key.now in
    let old = c.args.register.now in
    let made = c.in_ok-octets.ensures.certificate in
    record {
      allowed = λ told. may_leave_same key c.remade.new.register.identity old.first c.remade.new.register.first old.list c.remade.new.register.list c.deref.result.now c.in_ok-octets.octets.items
          (c.remade.ensures.same.identity ∙ c.requires) c.remade.ensures.same.first c.remade.ensures.list c.deref.ensures.value
          (may_leave key old.first c.in-Some.index old.list made.0 c.in_ok-octets.octets.items made.1 made.2);
    }

pub returns-in-Ok-clause-puts : goal.returns-in-Ok-clause-puts
returns-in-Ok-clause-puts g c =
    let old = c.args.register.now in
    let made = c.in_ok-octets.ensures.certificate in
    remade_put g.V.Station.tells g.V.Station.content g.V.Station.counts c.args.key.now old.first old.list c.args.serial c.in-Some.index old.station c.remade.new.register.station
    c.in-Some.ensures.index.1 c.remade.ensures.looks c.in-Ok.field-0 c.deref.result.now made.0 c.emit.new.self.station made.1
    (made.2 ∙ ap (λ (o : List ℕ). Some o) (sym c.deref.ensures.value))
    (λ told. c.in-Ok.ensures.sent (c.remade.ensures.tells ∙ told))

pub returns-clause-puts : goal.returns-clause-puts
returns-clause-puts g c =
    let counts = g.V.Station.counts in
    let old = c.args.register.now in
    let made = c.in_ok-octets.ensures.certificate in
    remade_cut g.V.Station.tells g.V.Station.content counts c.args.key.now old.first old.list c.args.serial c.in-Some.index old.station c.remade.new.register.station
    c.in-Some.ensures.index.1 c.remade.ensures.looks _ c.deref.result.now made.0 c.emit.new.self.station made.1
    (made.2 ∙ ap (λ (o : List ℕ). Some o) (sym c.deref.ensures.value))
    (λ told. c.in-Err.ensures.sent (c.remade.ensures.tells ∙ told))
    (rose_before (counts old.station).put_faults (counts c.remade.new.register.station).put_faults (counts c.emit.new.self.station).put_faults c.remade.ensures.spends.put_later c.in-Err.ensures.cause.failed)
