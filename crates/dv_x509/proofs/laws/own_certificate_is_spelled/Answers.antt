use Rattle.std.proofs.Common.{refl}
use Rattle.dv_x509.specs.Own.{OwnCertificate, OwnTbs}
use Rattle.dv_x509.proofs.laws.own_certificate_is_spelled.Goals as goal

pub returns : goal.returns
unfolding OwnCertificate OwnTbs
returns c = λ text key signature from until serial. refl
