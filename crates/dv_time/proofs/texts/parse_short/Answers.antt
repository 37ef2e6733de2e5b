use Rattle.dv_time.proofs.TextLemmas.{utc_long}
use Rattle.dv_time.proofs.TimeLemmas.{short_answer}
use Rattle.dv_time.proofs.texts.parse_short.Goals as goal

pub returns-then-text-ne13 : goal.returns-then-text-ne13
returns-then-text-ne13 c = utc_long c.args.text.now c.if-text-ne13.true

pub returns : goal.returns
returns c = short_answer c.args.text.now c.widened.result c.parse.result c.widened.ensures c.parse.ensures.says c.parse.ensures.test
