use Rattle.std.proofs.Common.{refl, subst}
use Rattle.dv_schema.specs.Decodes.{DecodesAll}
use Rattle.dv_schema.proofs.Decoding.{decodes_all}
use Rattle.dv_response.specs.Types.{response}
use Rattle.dv_response.specs.ResponseView.{view_response}
use Rattle.dv_response.proofs.response.Response.decode.Goals as goal

pub returns : goal.returns
returns c =
    subst (DecodesAll response view_response c.read_whole.result) c.new-c.ensures
    (decodes_all response view_response c.read_whole.result c.new-c.result refl c.fork-octets.ensures.octets c.read_whole.ensures)
