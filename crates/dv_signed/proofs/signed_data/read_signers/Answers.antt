use Rattle.std.proofs.Common.{false, arith}
use Rattle.dv_cms.specs.Types.{signer_info}
use Rattle.dv_signed.proofs.SetLemmas.{list_shorter}
use Rattle.dv_signed.proofs.signed_data.read_signers.Goals as goal

pub overflow_cast-result : goal.overflow_cast-result
overflow_cast-result c =
    let shorter = list_shorter 49 false signer_info c.args.c.now c.read_counted.new.c c.in_ok-set.set.now c.fork-octets.ensures.octets c.in_ok-set.ensures.list in
    omega (arith, shorter, c.in_ok-set.ensures.few, c.requires)
