use Rattle.dv_schema.proofs.Spellings.{either_one, not_both}
use Rattle.dv_schema.proofs.laws.value_or_refusal.Goals as goal

pub returns-clause-either : goal.returns-clause-either
returns-clause-either c = either_one

pub returns-clause-not_both : goal.returns-clause-not_both
returns-clause-not_both c = not_both
