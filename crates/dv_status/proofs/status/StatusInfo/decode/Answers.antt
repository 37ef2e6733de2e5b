use Rattle.std.proofs.Common.{refl}
use Rattle.dv_schema.proofs.Decoding.{decodes}
use Rattle.dv_status.specs.Types.{status_info}
use Rattle.dv_status.specs.Views.{view_status}
use Rattle.dv_status.proofs.status.StatusInfo.decode.Goals as goal

pub returns : goal.returns
returns c = decodes (status_info 48) view_status _ _ _ refl c.fork-octets.ensures.octets c.read.ensures
