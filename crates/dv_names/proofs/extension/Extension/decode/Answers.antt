use Rattle.std.proofs.Common.{refl}
use Rattle.dv_schema.proofs.Decoding.{decodes}
use Rattle.dv_names.specs.Types.{extension}
use Rattle.dv_names.specs.Views.{view_extension}
use Rattle.dv_names.proofs.extension.Extension.decode.Goals as goal

pub returns : goal.returns
returns c = decodes extension view_extension _ _ _ refl c.fork-octets.ensures.octets c.read.ensures
