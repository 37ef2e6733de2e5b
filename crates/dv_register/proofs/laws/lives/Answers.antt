use Rattle.dv_lms.specs.Signed.{public_of}
use Rattle.dv_register.specs.Lives.{line_of}
use Rattle.dv_register.proofs.MemoryLemmas.{length-head_of}
use Rattle.dv_register.proofs.LivesLemmas.{each_keeps}
use Rattle.dv_register.proofs.laws.lives.Goals as goal

pub returns : goal.returns
returns g c = λ key first lives sixty history.
    each_keeps (line_of g.V.Station.content g.V.Station.counts g.P.Releases.allows key first) (length-head_of (public_of key) first sixty) lives history
