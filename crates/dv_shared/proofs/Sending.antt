-- A shared register may be lent to threads where its station may move to one.
use denote.RattleType.{RattleType}
use denote.Param.Send.{IsSend, IsSync, AllSend, sendable}
use denote.Struct.Tuple.{TupleAt}
use mathlib.Core.List.{[], ◌∷◌}
use mir.Syntax.{Sym}
use Rattle.dv_outside.specs.declared.station.Station as Station
use Rattle.dv_outside.specs.declared.releases.Releases as Releases
use Rattle.dv_passes.specs.declared.rule.Naming as Naming
use Rattle.dv_passes.specs.contracts.history.Turn as Turn
use Rattle.dv_passes.proofs.history.Turn.TheSendSync as TurnSend
use Rattle.dv_passes.proofs.history.History.TheSendSync as HistorySend
use Rattle.dv_register.specs.contracts.register.Register as Register
use Rattle.dv_shared.specs.declared.origin.NamesRegister as NamesRegister
use Rattle.dv_shared.specs.contracts.locked.Locked as Locked
use Rattle.dv_shared.specs.contracts.shared.SharedRegister as Shared
use Rattle.std.proofs.Crossing.{crosses}

register_send : (V P : RattleType) (v : Station.Ghosts V.Denot) (p : Releases.Ghosts P.Denot) → IsSend V → IsSend P → IsSend (Register.the_row V P v p)
register_send V P v p sv sp = search (sendable, crosses) depth 20

pub shared_sync : (J V P : RattleType) (r : NamesRegister.Ghosts J.Denot V.Denot) (n : Naming.Ghosts J.Denot) (v : Station.Ghosts V.Denot) (p : Releases.Ghosts P.Denot) → IsSend V → IsSend P
    → IsSync (Shared.the_row J V P r n v p)
shared_sync J V P r n v p sv sp =
    let register : IsSend (Register.the_row V P v p) = register_send V P v p sv sp in
    let turn : IsSend (Turn.the_row J n) = search (sendable, TurnSend.the_send) depth 10 in
    let fields : AllSend (Register.the_row V P v p ∷ Turn.the_row J n ∷ []) = (register, (turn, tt)) in
    let inside : IsSend (Locked.TheInside.the_row J V P r n v p) = search (sendable, fields) depth 20 in
    let locked : IsSend (Locked.the_row J V P r n v p) = search (sendable, inside) depth 10 in
    search (sendable, crosses, locked, HistorySend.the_sync) depth 20

-- A closure over four things may move where each of them may.
pub closure_send : (name : Sym) (A B C D : RattleType) → IsSend A → IsSend B → IsSend C → IsSend D → IsSend (TupleAt name (A ∷ B ∷ C ∷ D ∷ []))
closure_send name A B C D a b c d =
    let all : AllSend (A ∷ B ∷ C ∷ D ∷ []) = (a, (b, (c, (d, tt)))) in
    search (sendable, all) depth 20
