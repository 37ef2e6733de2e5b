use Rattle.std.proofs.Common.{refl}
use Rattle.dv_schema.proofs.Decoding.{decodes}
use Rattle.dv_names.specs.Types.{digest_info}
use Rattle.dv_names.specs.Views.{view_digest}
use Rattle.dv_names.proofs.algorithm.DigestInfo.decode.Goals as goal

pub returns : goal.returns
returns c = decodes digest_info view_digest _ _ _ refl c.fork-octets.ensures.octets c.read.ensures
