use Rattle.std.proofs.Common.{rules}
use Rattle.dv_show.proofs.LineLemmas.{line_of_bit}
use Rattle.dv_show.proofs.line.push_notice.Goals as goal

pub returns-in-None : goal.returns-in-None
returns-in-None c = rw (line_of_bit c.args.least c.in-Some.bit c.in-Some.is c.in-None.ensures) (search rules)
