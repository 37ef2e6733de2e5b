use Rattle.std.proofs.Common.{◌≡◌, ◌*◌, ◌-◌, ◌^◌, ◌%◌, arith}
use Rattle.dv_status.proofs.FailLemmas.{bit_alone}
use Rattle.dv_status.proofs.fail.FailBits.of.Goals as goal

pub invariant_of-result : goal.invariant_of-result
invariant_of-result c =
    let a = bit_alone c.args.bit c.requires in
    let e : 1 * 2 ^ (31 - c.args.bit) % 4294967296 ≡ 2 ^ (31 - c.args.bit) = omega (arith, a.2) in
    rw e a
