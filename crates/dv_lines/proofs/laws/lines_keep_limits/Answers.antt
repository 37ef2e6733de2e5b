use Rattle.dv_lines.proofs.Limits.{line_limits}
use Rattle.dv_lines.proofs.laws.lines_keep_limits.Goals as goal

pub returns : goal.returns
returns c = line_limits
