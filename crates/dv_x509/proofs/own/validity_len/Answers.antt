use Rattle.std.proofs.Common.{arith}
use Rattle.dv_x509.proofs.OwnLemmas.{time_few, validity_size}
use Rattle.dv_x509.proofs.own.validity_len.Goals as goal

pub overflow_add-result : goal.overflow_add-result
overflow_add-result c = omega (arith, c.time_len.ensures, c.time_len-2.ensures, time_few c.args.from, time_few c.args.until)

pub overflow_add-result-2 : goal.overflow_add-result-2
overflow_add-result-2 c = omega (arith, c.time_len.ensures, c.time_len-2.ensures, time_few c.args.from, time_few c.args.until)

pub returns : goal.returns
returns c =
    record {
      octets = validity_size c.args.from c.args.until c.time_len.result c.time_len-2.result c.time_len.ensures c.time_len-2.ensures;
      few = omega (arith, c.time_len.ensures, c.time_len-2.ensures, time_few c.args.from, time_few c.args.until);
    }
