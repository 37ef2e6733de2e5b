use Rattle.std.proofs.Common.{arith}
use Rattle.dv_x509.proofs.KnownContents.{any_contents}
use Rattle.dv_x509.proofs.known.check_contents.Goals as goal

pub returns-in_default : goal.returns-in_default
returns-in_default c =
    any_contents c.args.known c.args.place c.args.contents.now (omega arith) (omega arith) (omega arith) (omega arith) (omega arith) (omega arith)
