use Rattle.std.proofs.Common.{arith, inr}
use Rattle.dv_session.proofs.RequestLemmas.{begun_less, begun_ends, begun_more}
use Rattle.dv_session.proofs.framer.end_of.Goals as goal

pub overflow_sub-end : goal.overflow_sub-end
overflow_sub-end c = omega (arith, begun_less c.args.begun.now c.args.ahead.now c.in-Whole.total c.requires c.in-Whole.ensures)

pub returns-then-end-ahead-clause-some : goal.returns-then-end-ahead-clause-some
returns-then-end-ahead-clause-some c = begun_ends c.args.begun.now c.args.ahead.now c.in-Whole.total c.requires c.in-Whole.ensures c.if-end-ahead.true

pub returns-else-end-ahead-clause-none : goal.returns-else-end-ahead-clause-none
returns-else-end-ahead-clause-none c = inr (begun_more c.args.begun.now c.args.ahead.now c.in-Whole.total c.in-Whole.ensures c.if-end-ahead.false)
