use Rattle.dv_cert.proofs.OrderLemmas.{found_at, passed_at}
use Rattle.dv_cert.proofs.order.place_in.Goals as goal

pub returns-then-not-is_less-clause-order : goal.returns-then-not-is_less-clause-order
returns-then-not-is_less-clause-order c =
    found_at c.args.octets.now c.args.sorted.now c.loop-i.i _ c.is_less.result c.loop-i-test.true c.is_less.ensures c.if-not-is_less.true c.loop-i.invariant

pub loop-i-preserved : goal.loop-i-preserved
loop-i-preserved c =
    passed_at c.args.octets.now c.args.sorted.now c.loop-i.i _ c.is_less.result c.loop-i-test.true c.is_less.ensures c.if-not-is_less.false c.loop-i.invariant
