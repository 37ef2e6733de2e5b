-- A file that is read to its end within one octet more than the limit is read whole.
use Rattle.std.proofs.Common.{arith}
use Rattle.dv_outside.proofs.Short.{read_is_whole}
use Rattle.dv_outside.proofs.dir_shelf.read_whole.Goals as goal

pub returns-in-Ok-2-clause-whole : goal.returns-in-Ok-2-clause-whole
returns-in-Ok-2-clause-whole g c =
    read_is_whole g.T.Read.remaining c.args.file c.take.result.inner c.take.result.limit c.in-Ok.octets.items _ c.take.ensures.inner c.in-Ok.ensures.items
    c.in-Ok-2.ensures.bytes (omega arith)
