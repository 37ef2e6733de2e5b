use Rattle.std.proofs.Common.{refl, subst}
use Rattle.dv_schema.specs.Decodes.{DecodesAll}
use Rattle.dv_schema.proofs.Decoding.{decodes_all}
use Rattle.dv_cms.specs.Types.{signed_data}
use Rattle.dv_signed.specs.SignedView.{view_signed}
use Rattle.dv_signed.proofs.signed_data.SignedData.decode.Goals as goal

pub returns : goal.returns
returns c =
    subst (DecodesAll signed_data view_signed c.read_whole.result) c.new-c.ensures
    (decodes_all signed_data view_signed c.read_whole.result c.new-c.result refl c.fork-octets.ensures.octets c.read_whole.ensures)
