use Rattle.std.proofs.Common.{refl, subst}
use Rattle.dv_schema.specs.Decodes.{DecodesAll}
use Rattle.dv_schema.proofs.Decoding.{decodes_all}
use Rattle.dv_response.specs.Types.{cert_info}
use Rattle.dv_response.specs.Views.{view_cert_info}
use Rattle.dv_response.proofs.cert_info.CertInfo.decode.Goals as goal

pub returns : goal.returns
returns c =
    subst (DecodesAll cert_info view_cert_info c.read_whole.result) c.new-c.ensures
    (decodes_all cert_info view_cert_info c.read_whole.result c.new-c.result refl c.fork-octets.ensures.octets c.read_whole.ensures)
