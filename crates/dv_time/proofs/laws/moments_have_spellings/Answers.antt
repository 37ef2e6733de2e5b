use Rattle.dv_time.proofs.TimeLemmas.{moment_fits, time_fits}
use Rattle.dv_time.proofs.laws.moments_have_spellings.Goals as goal

pub returns-clause-generalized : goal.returns-clause-generalized
returns-clause-generalized c = moment_fits

pub returns-clause-time : goal.returns-clause-time
returns-clause-time c = time_fits
