use Rattle.std.proofs.Common.{refl, subst}
use Rattle.dv_schema.specs.Decodes.{DecodesAll}
use Rattle.dv_schema.proofs.Decoding.{decodes_all}
use Rattle.dv_request.specs.RequestView.{view_request}
use Rattle.dv_request.specs.Types.{dvcs_request}
use Rattle.dv_request.proofs.request.Request.decode.Goals as goal

pub returns : goal.returns
returns c =
    subst (DecodesAll dvcs_request view_request c.read_whole.result) c.at_depth-c.ensures
    (decodes_all dvcs_request view_request c.read_whole.result c.at_depth-c.result refl c.fork-octets.ensures.octets c.read_whole.ensures)
