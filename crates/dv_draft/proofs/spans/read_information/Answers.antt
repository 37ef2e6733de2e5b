use Rattle.std.proofs.Common.{arith, Ok}
use Rattle.dv_schema.specs.Schema.{ValueOf}
use Rattle.dv_schema.specs.Reading.{Spot}
use Rattle.dv_schema.proofs.Moves.{moves}
use Rattle.dv_request.specs.InfoView.{view_info}
use Rattle.dv_request.specs.Types.{request_information}
use Rattle.dv_draft.proofs.Suches.{read_there}
use Rattle.dv_draft.proofs.spans.read_information.Goals as goal

pub up_to-octets-requires : goal.up_to-octets-requires
up_to-octets-requires c =
    let x : ValueOf request_information × Spot = (view_info c.in-Ok.field-0, c.read.new.c) in
    let e = read_there request_information c.fork-next.result c.args.c.now (Ok x) c.fork-next.ensures.same c.in-Ok.ensures in
    let m = moves request_information c.args.c.now x e in
    omega (arith, m.less)
