use Rattle.std.proofs.Common.{◌≡◌, ◌∙◌, ◌+◌, ◌*◌, ℕ, List, take, length, arith, sym, ap, subst, IsTrue, rules}
use Rattle.std.proofs.lemmas.Result.{err_from_is_err_and}
use Rattle.dv_outside.proofs.Looking.{durable_look}
use Rattle.dv_outside.proofs.Counting.{spends_then, spends_less}
use Rattle.dv_register.specs.Layout.{head_of}
use Rattle.dv_register.specs.Refusals.{BreaksOff, IsNoRegister, IsOtherKey, no_record}
use Rattle.dv_register.proofs.MemoryLemmas.{length-head_of}
use Rattle.dv_register.proofs.OpeningLemmas.{read_moves, cause_moves}
use Rattle.dv_register.proofs.opening.find_records.Goals as goal

pub returns-in_err-first-clause-refused : goal.returns-in_err-first-clause-refused
returns-in_err-first-clause-refused g c =
    let p = err_from_is_err_and c.from_residual-in_err-first.result c.from_residual-in_err-first.ensures.1 in
    let told_1 = λ (told : IsTrue (g.V.Station.tells c.args.station.now)). c.sure_size.ensures.tells ∙ told in
    let same = λ (told : IsTrue (g.V.Station.tells c.args.station.now)). (c.sure_size.ensures.looks told).reads in
    rw (p.1, p.2) (cause_moves
    (λ place. IsTrue (g.V.Station.tells c.sure_size.new.station) → IsNoRegister (g.V.Station.content c.sure_size.new.station).reads c.args.key.now c.args.limit place)
    (λ place. IsTrue (g.V.Station.tells c.args.station.now) → IsNoRegister (g.V.Station.content c.args.station.now).reads c.args.key.now c.args.limit place)
    (IsTrue (g.V.Station.tells c.sure_size.new.station) → IsOtherKey (g.V.Station.content c.sure_size.new.station).reads c.args.key.now)
    (IsTrue (g.V.Station.tells c.args.station.now) → IsOtherKey (g.V.Station.content c.args.station.now).reads c.args.key.now) _ _ _ _
    (λ place says told. subst (λ (l : List ℕ). IsNoRegister l c.args.key.now c.args.limit place) (same told) (says (told_1 told)))
    (λ says told. subst (λ (l : List ℕ). IsOtherKey l c.args.key.now) (same told) (says (told_1 told)))
    c.sure_size.ensures.spends.later (omega arith) _ (c.in_err-first.ensures.refused c.args.limit))

pub returns-in_err-records-clause-refused : goal.returns-in_err-records-clause-refused
returns-in_err-records-clause-refused g c =
    let p = err_from_is_err_and c.from_residual-in_err-records.result c.from_residual-in_err-records.ensures.1 in
    let sixty : length c.args.key.now ≡ 60 = search rules in
    let head = head_of c.args.key.now c.in_ok-first.first in
    let told_1 = λ (told : IsTrue (g.V.Station.tells c.args.station.now)). c.sure_size.ensures.tells ∙ told in
    let told_2 = λ (told : IsTrue (g.V.Station.tells c.args.station.now)). c.first_at.ensures.tells ∙ told_1 told in
    let same = λ (told : IsTrue (g.V.Station.tells c.args.station.now)). (c.first_at.ensures.looks (told_1 told)).reads ∙ (c.sure_size.ensures.looks told).reads in
    rw (p.1, p.2) (cause_moves
    (λ place. IsTrue (g.V.Station.tells c.first_at.new.station) → BreaksOff (g.V.Station.content c.first_at.new.station).reads head c.args.limit place)
    (λ place. IsTrue (g.V.Station.tells c.args.station.now) → IsNoRegister (g.V.Station.content c.args.station.now).reads c.args.key.now c.args.limit place)
    ⊥
    (IsTrue (g.V.Station.tells c.args.station.now) → IsOtherKey (g.V.Station.content c.args.station.now).reads c.args.key.now) _ _ _ _
    (λ place says told. no_record c.in_ok-first.first c.in_ok-first.ensures.serial
    (subst (λ (l : List ℕ). BreaksOff l head c.args.limit place) (same told) (says (told_2 told))))
    (λ none. absurd none)
    (omega (arith, c.sure_size.ensures.spends.later, c.first_at.ensures.spends.later)) (omega arith) _
    (c.in_err-records.ensures.refused head (length-head_of c.args.key.now c.in_ok-first.first sixty)
    (λ told. let t1 = sym c.first_at.ensures.tells ∙ told in ap (take 76) (c.first_at.ensures.looks t1).reads ∙ c.in_ok-first.ensures.head t1)))

pub returns-in_err-records-clause-spends : goal.returns-in_err-records-clause-spends
returns-in_err-records-clause-spends g c =
    spends_less _ _ (3 * c.args.limit + 6) 0 _ _ (omega arith) (omega arith)
    (spends_then _ _ _ _ _ _ _ (spends_then _ _ _ _ _ _ _ c.sure_size.ensures.spends c.first_at.ensures.spends) c.read_records.ensures.spends)

pub returns-clause-read : goal.returns-clause-read
returns-clause-read g c =
    let sixty : length c.args.key.now ≡ 60 = search rules in
    let head = head_of c.args.key.now c.in_ok-first.first in
    let told_1 = λ (told : IsTrue (g.V.Station.tells c.args.station.now)). c.sure_size.ensures.tells ∙ told in
    let told_2 = λ (told : IsTrue (g.V.Station.tells c.args.station.now)). c.first_at.ensures.tells ∙ told_1 told in
    let same = λ (told : IsTrue (g.V.Station.tells c.args.station.now)). (c.first_at.ensures.looks (told_1 told)).reads ∙ (c.sure_size.ensures.looks told).reads in
    read_moves _ _ _ _ head _ _ _ _ told_2 same
    (c.in_ok-records.ensures.read head (length-head_of c.args.key.now c.in_ok-first.first sixty)
    (λ told. let t1 = sym c.first_at.ensures.tells ∙ told in ap (take 76) (c.first_at.ensures.looks t1).reads ∙ c.in_ok-first.ensures.head t1))

pub returns-clause-durable : goal.returns-clause-durable
returns-clause-durable g c = λ told.
    let t1 = c.sure_size.ensures.tells ∙ told in
    let t2 = c.first_at.ensures.tells ∙ t1 in
    durable_look _ _ (c.read_records.ensures.looks t2) (durable_look _ _ (c.first_at.ensures.looks t1) (c.in_ok-size.ensures.durable told))

pub returns-clause-spends : goal.returns-clause-spends
returns-clause-spends g c =
    spends_less _ _ (3 * c.args.limit + 6) 0 _ _ (omega arith) (omega arith)
    (spends_then _ _ _ _ _ _ _ (spends_then _ _ _ _ _ _ _ c.sure_size.ensures.spends c.first_at.ensures.spends) c.read_records.ensures.spends)
