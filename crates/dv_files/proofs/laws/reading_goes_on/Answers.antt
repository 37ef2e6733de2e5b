use Rattle.dv_files.proofs.CertificateLists.{complete, goes_on}
use Rattle.dv_files.proofs.laws.reading_goes_on.Goals as goal

pub returns-clause-more : goal.returns-clause-more
returns-clause-more c = goes_on

pub returns-clause-end : goal.returns-clause-end
returns-clause-end c = complete
