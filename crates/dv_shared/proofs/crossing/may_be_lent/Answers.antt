use denote.Param.{param}
use denote.Param.Send.{IsSync, sendable}
use Rattle.dv_shared.specs.contracts.shared.SharedRegister as Shared
use Rattle.dv_shared.proofs.Sending.{shared_sync}
use Rattle.dv_shared.proofs.crossing.may_be_lent.Goals as goal

pub lend-requires-sync-T : goal.lend-requires-sync-T
lend-requires-sync-T g c κs within =
    let shared : IsSync (Shared.the_row (param 0 g.row.J) (param 1 g.row.V) (param 2 g.row.P) g.J.NamesRegister g.J.Naming g.V.Station g.P.Releases) = shared_sync (param 0 g.row.J) (param 1 g.row.V) (param 2 g.row.P) g.J.NamesRegister g.J.Naming g.V.Station g.P.Releases c.type_bounds.send-V c.type_bounds.send-P in
    search (sendable, shared) depth 20
