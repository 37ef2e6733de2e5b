use Rattle.dv_files.proofs.CertificateLists.{begun}
use Rattle.dv_files.proofs.laws.reading_begins.Goals as goal

pub returns : goal.returns
returns c = begun
