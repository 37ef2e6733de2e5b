use denote.Exit.{no}
use denote.Param.{param}
use denote.Param.Send.{IsSend, IsSync, arg_send, param_send, sendable, shr_send, shr_slice_send}
use denote.Plain.{UInt}
use mir.Syntax.{w8}
use Rattle.dv_passes.specs.contracts.history.Pass as Pass
use Rattle.dv_passes.proofs.history.Pass.TheSendSync as PassSend
use Rattle.dv_shared.specs.contracts.shared.SharedRegister as Shared
use Rattle.dv_shared.proofs.Sending.{closure_send, shared_sync}
use Rattle.dv_shared.proofs.tests.reserve_both.Lts as lts
use Rattle.dv_shared.proofs.tests.reserve_both.Goals as goal

-- each closure holds the register and the runtime by reference, a pass, and octets
pub join-requires-send-F : goal.join-requires-send-F
join-requires-send-F g c κs within =
    let shared : IsSync (Shared.the_row (param 0 g.row.J) (param 1 g.row.V) (param 2 g.row.P) g.J.NamesRegister g.J.Naming g.V.Station g.P.Releases) = shared_sync (param 0 g.row.J) (param 1 g.row.V) (param 2 g.row.P) g.J.NamesRegister g.J.Naming g.V.Station g.P.Releases c.type_bounds.send-V c.type_bounds.send-P in
    let pass : IsSend (Pass.the_row (param 0 g.row.J) g.J.Naming) = search (sendable, PassSend.the_send) depth 10 in
    let octet : IsSync (UInt w8) = search sendable in
    let rt : IsSync (param 3 g.row.R) = search sendable in
    param_send 1 (lts.arg-0-1 g.row.J g.row.V g.row.P g.row.R g.J.laws g.V.laws g.P.laws g.R.laws g.J.NamesRegister g.J.NamesRegister-dict g.J.Naming g.J.Naming-dict g.V.Station g.V.Station-dict g.P.Releases g.P.Releases-dict g.R.Threads g.R.Threads-dict g.R.Wait g.R.Wait-dict κs)
    (arg_send _ no _ (closure_send _ _ _ _ _ (shr_send _ _ _ shared) (shr_send _ _ _ rt) pass (shr_slice_send _ _ _ octet)))
