use Rattle.std.proofs.Common.{◌∙◌, ◌-◌, ◌+◌, length, drop, sym, ap, subst, arith, length-drop, IsTrue, rules}
use Rattle.std.proofs.lemmas.Result.{err_from_is_err_and}
use Rattle.dv_register.specs.Opening.{IsWhole, BreaksAt}
use Rattle.dv_register.specs.Refusals.{BreaksOff}
use Rattle.dv_register.proofs.OpeningLemmas.{broken, one_more, read_more, reads_moves, cause_moves}
use Rattle.dv_register.proofs.opening.read_record.Goals as goal

pub returns-in_err-kind-clause-refused : goal.returns-in_err-kind-clause-refused
returns-in_err-kind-clause-refused g c = λ head read.
    let p = err_from_is_err_and c.from_residual.result c.from_residual.ensures.1 in
    rw (p.1, p.2) (cause_moves
    (λ place. IsTrue (g.V.Station.tells c.args.station.now) → BreaksAt (g.V.Station.content c.args.station.now).reads c.args.records.now.gate place)
    (λ place. IsTrue (g.V.Station.tells c.args.station.now) → BreaksOff (g.V.Station.content c.args.station.now).reads head c.args.limit place)
    ⊥ ⊥ _ _ _ _ (λ place breaks told. broken _ _ head _ _ _ _ read told place (c.requires.open told) (breaks told)) (λ x. x) (omega arith) (omega arith) _ c.in_err-kind.ensures.refused)

pub returns-then-len-limit-clause-refused : goal.returns-then-len-limit-clause-refused
returns-then-len-limit-clause-refused g c = λ head read told.
    let behind = drop (c.args.records.now.gate + 1) (g.V.Station.content c.args.station.now).reads in
    let whole : IsWhole c.in_ok-kind.kind c.in_ok-kind.len (length behind) =
    subst (λ n. IsWhole c.in_ok-kind.kind c.in_ok-kind.len n)
    (ap (λ n. n - (c.args.records.now.gate + 1)) (c.requires.size told) ∙ sym (length-drop (c.args.records.now.gate + 1) (g.V.Station.content c.args.station.now).reads))
    c.in_ok-kind.ensures.whole in
    one_more _ _ head _ _ _ _ read told c.in_ok-kind.kind c.in_ok-kind.len (c.requires.open told) (c.in_ok-kind.ensures.begins told) whole (omega arith)

pub returns-clause-read : goal.returns-clause-read
returns-clause-read g c = λ head read.
    let on = reads_moves _ _ _ (g.V.Station.content c.args.station.now).reads _ _ _ _ (λ told. c.record_at.ensures.tells ∙ told) (λ told. (c.record_at.ensures.looks told).reads) c.in_ok-read_on.ensures.read in
    read_more _ _ head c.args.limit c.args.records.now.gate c.args.records.now.places.items c.args.records.now.octets.items read
    c.in_ok-kind.kind c.in_ok-kind.len c.push.new.self.items c.read_on.new.octets.items on
    c.in_ok-kind.ensures.whole.known c.in_ok-kind.ensures.whole.short (omega arith) (λ told. c.requires.open told) (λ told. c.in_ok-kind.ensures.begins told)
    (search rules)
