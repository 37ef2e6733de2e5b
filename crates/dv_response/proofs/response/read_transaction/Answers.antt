use Rattle.std.proofs.Common.{length, ap, arith}
use Rattle.dv_schema.specs.Schema.{ValueOf}
use Rattle.dv_schema.specs.Reading.{Spot}
use Rattle.dv_schema.proofs.Moves.{moves}
use Rattle.dv_names.specs.Types.{general_name}
use Rattle.dv_names.specs.Views.{view_general}
use Rattle.dv_response.proofs.response.read_transaction.Goals as goal

pub up_to-raw-requires : goal.up_to-raw-requires
up_to-raw-requires c =
    let x : ValueOf general_name × Spot = (view_general c.in_ok-read.field-0, c.read.new.c) in
    let m = moves general_name c.fork-next.result x c.in_ok-read.ensures in
    omega (arith, m.less, ap (λ (p : Spot). length p.rest) c.fork-next.ensures.same)
