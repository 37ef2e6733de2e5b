use Rattle.std.proofs.Common.{length, ap, arith}
use Rattle.dv_register.proofs.MemoryLemmas.{length-entries_of}
use Rattle.dv_register.proofs.LimitLemmas.{leaf_count-le}
use Rattle.dv_register.proofs.register.Register.len.Goals as goal

pub overflow_cast-result : goal.overflow_cast-result
overflow_cast-result g c = omega (arith, c.self.invariant.kept.fits, leaf_count-le c.self.inside.key.value.height, length-entries_of c.self.inside.places.items c.self.inside.octets.items)

pub returns-clause-length : goal.returns-clause-length
returns-clause-length g c = omega (arith, c.len.ensures, length-entries_of c.self.inside.places.items c.self.inside.octets.items, ap (λ s. length s.list) c.self.view_is)
