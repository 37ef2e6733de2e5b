use Rattle.std.proofs.Common.{◌≤◌, ◌∙◌, ℕ, sym, subst}
use Rattle.dv_time.specs.Text.{last_second}
use Rattle.dv_session.specs.Issuing.{book_of, view_issued}
use Rattle.dv_session.proofs.AnsweringLemmas.{is_answer, one_answered, one_clock, one_cut, one_out, one_past, one_shut, put_same, same_book}
use Rattle.dv_session.proofs.serving.answer_one.Goals as goal

pub returns-in_default-clause-answers : goal.returns-in_default-clause-answers
returns-in_default-clause-answers g c = one_clock _ _ _ _ _ _ _ c.requires.open c.in_default.ensures.content

pub returns-in_default-from_unix-clause-answers : goal.returns-in_default-from_unix-clause-answers
returns-in_default-from_unix-clause-answers g c =
    one_past _ _ _ _ _ _ _ c.requires.open c.in-Ok.second c.in-Ok.ensures.content c.in_default-from_unix.ensures

pub returns-in_default-issue_one-clause-answers : goal.returns-in_default-issue_one-clause-answers
returns-in_default-issue_one-clause-answers g c =
    one_out _ _ _ _ _ _ _ c.requires.open c.in-Ok.second c.in-Ok.ensures.content _ _
    (subst (λ (m : ℕ). m ≤ last_second) c.in-Some.ensures.0 c.in-Some.ensures.1) c.in_default-issue_one.ensures.unchanged
    (λ told. (c.issue_one.ensures.images told).keeps) (λ told. (c.issue_one.ensures.images told).silent)

pub returns-in_default-emit-clause-answers : goal.returns-in_default-emit-clause-answers
returns-in_default-emit-clause-answers g c =
    let issued = view_issued c.in-Ok-issue_one.issued in
    let answer = is_answer _ _ c.in-Ok.second c.in-Some.moment (book_of c.args.register.now) (book_of c.issue_one.new.register) (book_of c.emit.new.self) issued
    c.in-Some.ensures.0 c.in-Some.ensures.1 c.in-Ok-issue_one.ensures.given
    (same_book c.issue_one.new.register c.emit.new.self c.emit.ensures.list c.emit.ensures.shut) in
    one_cut _ _ _ _ _ _ _ c.requires.open c.in-Ok.second c.in-Ok.ensures.content issued.octets _ answer (g.V.Station.content c.issue_one.new.register.station) _
    (λ told. (c.issue_one.ensures.images told).keeps) (λ told. (c.issue_one.ensures.images told).silent) c.in_default-emit.field-0
    (λ told. put_same _ _ _ _ _ c.deref.ensures.value (c.in_default-emit.ensures.sent (c.issue_one.ensures.tells ∙ told)))

pub returns-then-is_shut-clause-answers : goal.returns-then-is_shut-clause-answers
returns-then-is_shut-clause-answers g c =
    let issued = view_issued c.in-Ok-issue_one.issued in
    let answer = is_answer _ _ c.in-Ok.second c.in-Some.moment (book_of c.args.register.now) (book_of c.issue_one.new.register) (book_of c.emit.new.self) issued
    c.in-Some.ensures.0 c.in-Some.ensures.1 c.in-Ok-issue_one.ensures.given
    (same_book c.issue_one.new.register c.emit.new.self c.emit.ensures.list c.emit.ensures.shut) in
    one_shut _ _ _ _ _ _ _ c.requires.open c.in-Ok.second c.in-Ok.ensures.content issued.octets _ answer (g.V.Station.content c.issue_one.new.register.station) _
    (λ told. (c.issue_one.ensures.images told).keeps) (λ told. (c.issue_one.ensures.images told).silent) c.in-Ok-emit.field-0
    (λ told. put_same _ _ _ _ _ c.deref.ensures.value (c.in-Ok-emit.ensures.sent (c.issue_one.ensures.tells ∙ told)))
    (sym c.is_shut.ensures ∙ c.if-is_shut.true)

pub returns-clause-answers : goal.returns-clause-answers
returns-clause-answers g c =
    let issued = view_issued c.in-Ok-issue_one.issued in
    let answer = is_answer _ _ c.in-Ok.second c.in-Some.moment (book_of c.args.register.now) (book_of c.issue_one.new.register) (book_of c.emit.new.self) issued
    c.in-Some.ensures.0 c.in-Some.ensures.1 c.in-Ok-issue_one.ensures.given
    (same_book c.issue_one.new.register c.emit.new.self c.emit.ensures.list c.emit.ensures.shut) in
    one_answered _ _ _ _ _ _ _ c.requires.open c.in-Ok.second c.in-Ok.ensures.content issued.octets _ answer (g.V.Station.content c.issue_one.new.register.station) _
    (λ told. (c.issue_one.ensures.images told).keeps) (λ told. (c.issue_one.ensures.images told).silent) c.in-Ok-emit.field-0
    (λ told. put_same _ _ _ _ _ c.deref.ensures.value (c.in-Ok-emit.ensures.sent (c.issue_one.ensures.tells ∙ told)))
    (sym c.is_shut.ensures ∙ c.if-is_shut.false)
