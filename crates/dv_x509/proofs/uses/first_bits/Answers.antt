use Rattle.std.proofs.Common.{◌/◌, get_or, arith}
use Rattle.dv_x509.proofs.UseLemmas.{next_fits}
use Rattle.dv_x509.proofs.uses.first_bits.Goals as goal

pub overflow_add-bits : goal.overflow_add-bits
overflow_add-bits c =
    let fits = next_fits c.loop-i.bits c.loop-i.i (get_or c.args.octets.now (c.loop-i.i / 8) 0) c.args.octets.now c.loop-i-test.true c.loop-i.invariant in
    omega (arith, fits)
