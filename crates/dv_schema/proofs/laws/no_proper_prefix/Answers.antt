use Rattle.dv_schema.proofs.Spellings.{no_prefix}
use Rattle.dv_schema.proofs.laws.no_proper_prefix.Goals as goal

pub returns : goal.returns
returns c = no_prefix
