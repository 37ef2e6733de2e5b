use Rattle.std.proofs.Common.{refl}
use Rattle.dv_schema.proofs.Decoding.{decodes}
use Rattle.dv_cms.specs.Types.{content_info}
use Rattle.dv_cms.specs.Views.{view_content_info}
use Rattle.dv_cms.proofs.content_info.ContentInfo.decode_next.Goals as goal

pub returns : goal.returns
returns c = decodes content_info view_content_info _ _ _ refl c.fork-octets.ensures.octets c.read.ensures
