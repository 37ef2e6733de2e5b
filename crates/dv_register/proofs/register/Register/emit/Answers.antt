use Rattle.std.proofs.Common.{subst, sym, IsTrue}
use Rattle.dv_register.specs.State.{State, rule_identity}
use Rattle.dv_register.proofs.EmitLemmas.{held_put}
use Rattle.dv_register.proofs.register.Register.emit.Goals as goal

pub invariant_of-self : goal.invariant_of-self
invariant_of-self g c =
    held_put g.V.Station.tells g.V.Station.content g.V.Station.counts g.P.Releases.allows g.P.Releases.grows _ _ _ _ _ c.self.invariant c.put.new.self c.put.result c.args.octets.now
    c.put.ensures.tells
    (subst (λ (s : State _). IsTrue (g.V.Station.tells s.station) → g.P.Releases.allows (rule_identity s.identity) s.first s.list c.args.octets.now) (sym c.self.view_is) c.requires.allowed)
    c.put.ensures.content c.put.ensures.cause c.put.ensures.faults

pub returns-clause-kept : goal.returns-clause-kept
returns-clause-kept g c = (invariant_of-self g c).kept
