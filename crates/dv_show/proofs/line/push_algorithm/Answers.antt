use Rattle.dv_show.proofs.AlgorithmLemmas.{oid_spelled}
use Rattle.dv_show.proofs.line.push_algorithm.Goals as goal

pub push_identifier-requires : goal.push_identifier-requires
push_identifier-requires c = oid_spelled c.args.algorithm.now.oid.octets.now c.args.algorithm.now.oid.spelled
