use Rattle.std.proofs.Common.{refl, subst}
use Rattle.dv_schema.specs.Decodes.{DecodesAll}
use Rattle.dv_schema.proofs.Decoding.{decodes_all}
use Rattle.dv_cms.specs.Types.{content_info}
use Rattle.dv_cms.specs.Views.{view_content_info}
use Rattle.dv_cms.proofs.content_info.ContentInfo.decode.Goals as goal

pub returns : goal.returns
returns c =
    subst (DecodesAll content_info view_content_info c.read_whole.result) c.new-c.ensures
    (decodes_all content_info view_content_info c.read_whole.result c.new-c.result refl c.fork-octets.ensures.octets c.read_whole.ensures)
