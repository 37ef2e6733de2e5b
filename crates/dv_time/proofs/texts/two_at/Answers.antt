use Rattle.std.proofs.Common.{arith}
use Rattle.dv_time.proofs.TextLemmas.{two_digits}
use Rattle.dv_time.proofs.texts.two_at.Goals as goal

pub overflow_sub-result : goal.overflow_sub-result
overflow_sub-result c = let h = two_digits c.args.text.now c.requires.form c.args.at c.requires.place in omega (arith, h)

pub overflow_mul-result : goal.overflow_mul-result
overflow_mul-result c = let h = two_digits c.args.text.now c.requires.form c.args.at c.requires.place in omega (arith, h)

pub overflow_sub-result-2 : goal.overflow_sub-result-2
overflow_sub-result-2 c = let h = two_digits c.args.text.now c.requires.form c.args.at c.requires.place in omega (arith, h)

pub overflow_add-result-2 : goal.overflow_add-result-2
overflow_add-result-2 c = let h = two_digits c.args.text.now c.requires.form c.args.at c.requires.place in omega (arith, h)

pub returns-clause-bound : goal.returns-clause-bound
returns-clause-bound c = let h = two_digits c.args.text.now c.requires.form c.args.at c.requires.place in omega (arith, h)
