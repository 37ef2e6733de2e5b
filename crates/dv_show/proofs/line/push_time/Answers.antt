use Rattle.dv_show.proofs.TimeLemmas.{text_is_utf8}
use Rattle.dv_show.proofs.line.push_time.Goals as goal

pub unreachable-requires : goal.unreachable-requires
unreachable-requires c = c.in-Err.ensures.cases.0 (text_is_utf8 c.args.time c.text-octets.result c.text-octets.ensures.says)
