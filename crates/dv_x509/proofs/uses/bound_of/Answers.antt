use Rattle.dv_x509.proofs.UseLemmas.{long_bound}
use Rattle.dv_x509.proofs.uses.bound_of.Goals as goal

pub returns-in_default-3 : goal.returns-in_default-3
returns-in_default-3 c = long_bound c.args.octets.now c.requires c.in_default.len_at_least
