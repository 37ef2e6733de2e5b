use Rattle.std.proofs.Common.{refl}
use Rattle.dv_schema.proofs.Decoding.{decodes}
use Rattle.dv_names.specs.Types.{general_name}
use Rattle.dv_names.specs.Views.{view_general}
use Rattle.dv_names.proofs.general.GeneralName.decode.Goals as goal

pub returns : goal.returns
returns c = decodes general_name view_general _ _ _ refl c.fork-octets.ensures.octets c.read.ensures
