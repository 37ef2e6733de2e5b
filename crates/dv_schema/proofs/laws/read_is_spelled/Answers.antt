use Rattle.dv_schema.proofs.Takes.{takes}
use Rattle.dv_schema.proofs.laws.read_is_spelled.Goals as goal

pub returns : goal.returns
returns c = λ s p q v bytes e. (let t = takes s p (v, q) bytes e in (t.1, t.0.octets, t.0.place, t.0.levels))
