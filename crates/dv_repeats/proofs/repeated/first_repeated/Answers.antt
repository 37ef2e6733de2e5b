use Rattle.std.proofs.Common.{arith}
use Rattle.dv_repeats.proofs.GoneLemmas.{gone_on, gone_whole, gone_within}
use Rattle.dv_repeats.proofs.repeated.first_repeated.Goals as goal

pub returns-then-scan-lt-ROOM-clause-first : goal.returns-then-scan-lt-ROOM-clause-first
returns-then-scan-lt-ROOM-clause-first g c = λ ks q h.
    (let s = c.go_over-scan.result in
    let e = c.go_over-scan.ensures in
    gone_whole g.K.Keyed.turn c.loop-scan.from s.next c.loop-scan.number s.count c.loop-scan.first s.first ks q (c.loop-scan.invariant.2 ks q h) e.earlier e.ahead e.scan c.if-scan-lt-ROOM.true)

pub returns-then-scan-lt-ROOM-clause-within : goal.returns-then-scan-lt-ROOM-clause-within
returns-then-scan-lt-ROOM-clause-within g c = λ ks q h none.
    (let s = c.go_over-scan.result in
    let e = c.go_over-scan.ensures in
    gone_within g.K.Keyed.turn c.loop-scan.from s.next c.loop-scan.number s.count c.loop-scan.first s.first ks q (c.loop-scan.invariant.2 ks q h) e.earlier e.ahead e.scan none)

pub loop-scan-preserved : goal.loop-scan-preserved
loop-scan-preserved g c =
    let s = c.go_over-scan.result in
    let e = c.go_over-scan.ensures in
    let w = c.loop-scan.invariant in (
      omega (arith, w.0, e.left),
      e.ahead,
      λ ks q h. gone_on g.K.Keyed.turn c.loop-scan.from s.next c.loop-scan.number s.count c.loop-scan.first s.first ks q (w.2 ks q h) e.earlier e.ahead e.scan,
    )
