use Rattle.dv_files.proofs.CertificateLists.{full, refused}
use Rattle.dv_files.proofs.laws.reading_stops.Goals as goal

pub returns-clause-refused : goal.returns-clause-refused
returns-clause-refused c = refused

pub returns-clause-full : goal.returns-clause-full
returns-clause-full c = full
