use Rattle.std.proofs.Common.{◌≡◌, ◌+◌, ◌∙◌, ℕ, true, false, List, length, sym, arith}
use Rattle.dv_schema.specs.Octets.{is_one_of}
use Rattle.dv_repeats.specs.Windows.{keys_of}
use Rattle.dv_repeats.proofs.ScanLemmas.{IsPass, found, known_is, known_past, passed_by, reached, stopped, taken_up}
use Rattle.dv_repeats.proofs.repeated.go_over.Goals.{else-loop-ahead-test, else-not-is_full, then-loop-ahead-test+in_default, then-not-is_full}
use Rattle.dv_repeats.proofs.repeated.go_over.Goals as goal

pub returns-then-has-clause-scan : goal.returns-then-has-clause-scan
returns-then-has-clause-scan g c = λ ks q h.
    (let w = c.loop-ahead.invariant in
    let turn = g.K.Keyed.turn in
    let keys : List (List ℕ) = keys_of c.loop-ahead.window.keys.items in
    let pass : IsPass turn c.loop-ahead.ahead c.pass_key.new.c c.in-Some.key.now = record { member = c.in-Some.ensures.member; less = c.in-Some.ensures.less } in
    let there : is_one_of keys c.in-Some.key.now ≡ true = sym c.has.ensures ∙ c.if-has.true in
    rw c.len.ensures (found turn keys (length c.loop-ahead.window.keys.items) c.loop-ahead.passed c.loop-ahead.next c.loop-ahead.ahead c.pass_key.new.c c.in-Some.key.now ks q (w.5 ks q h) pass
    c.args.from.now c.args.number c.args.known w.0 w.1 there))

pub loop-ahead-preserved : goal.loop-ahead-preserved
loop-ahead-preserved g c =
    let w = c.loop-ahead.invariant in
    let turn = g.K.Keyed.turn in
    let keys : List (List ℕ) = keys_of c.loop-ahead.window.keys.items in
    let pass : IsPass turn c.loop-ahead.ahead c.pass_key.new.c c.in-Some.key.now = record { member = c.in-Some.ensures.member; less = c.in-Some.ensures.less } in
    let alone : is_one_of keys c.in-Some.key.now ≡ false = sym c.has.ensures ∙ c.if-has.false in
    let less = c.in-Some.ensures.less in
    let past = known_past c.args.known c.args.number c.loop-ahead.passed (sym c.ne.ensures ∙ c.loop-ahead-test.true) w.4 in
    elim c.if-not-is_full.branch [
      | then-not-is_full v ↦ (let same = w.1 (c.is_full.ensures.free v.if-not-is_full.true) in
          let one = v.add.ensures.len in
          let on : v.fork-next-then-not-is_full.result ≡ c.pass_key.new.c = v.fork-next-then-not-is_full.ensures.same in
          rw (v.window-is, v.next-is, on) (
            omega (arith, one, same),
            λ short. omega (arith, one, same),
            omega (arith, w.2, less),
            omega (arith, w.2, less, one, same),
            past,
            λ ks q h. rw one (taken_up turn keys (length c.loop-ahead.window.keys.items) c.loop-ahead.passed c.loop-ahead.next c.loop-ahead.ahead c.pass_key.new.c c.in-Some.key.now ks q (w.5 ks q h) pass (keys_of v.add.new.self.keys.items) same alone v.add.ensures.keys),
          ))
      | else-not-is_full v ↦ rw (v.window-is, v.next-is) (
        omega (arith, w.0),
        λ short. absurd (let full = c.is_full.ensures.full v.if-not-is_full.false in omega (arith, full, short)),
        omega (arith, w.2, less),
        w.3,
        past,
        λ ks q h. passed_by turn keys (length c.loop-ahead.window.keys.items) c.loop-ahead.passed c.loop-ahead.next c.loop-ahead.ahead c.pass_key.new.c c.in-Some.key.now ks q (w.5 ks q h) pass w.0 alone,
      )
    ]

pub returns-clause-scan : goal.returns-clause-scan
returns-clause-scan g c = λ ks q h.
    (let w = c.loop-ahead.invariant in
    let turn = g.K.Keyed.turn in
    let keys : List (List ℕ) = keys_of c.loop-ahead.window.keys.items in
    let count : ℕ = length c.loop-ahead.window.keys.items in
    rw c.len-2.ensures (elim c.loop-ahead-test.branch [
      | else-loop-ahead-test v ↦ reached turn keys count c.loop-ahead.passed c.loop-ahead.next c.loop-ahead.ahead ks q (w.5 ks q h) c.args.from.now c.args.number c.args.known w.0 w.1 (known_is c.args.known (c.args.number + c.loop-ahead.passed) (sym c.ne.ensures ∙ v.loop-ahead-test.false))
      | then-loop-ahead-test+in_default v ↦ stopped turn keys count c.loop-ahead.passed c.loop-ahead.next c.loop-ahead.ahead ks q (w.5 ks q h) c.args.from.now c.args.number c.args.known w.0 w.1 (λ k m e. (v.in_default.ensures.member k m e).0)
    ]))
