use Rattle.std.proofs.Common.{false}
use Rattle.dv_passes.specs.declared.view.Event.TheVariants.{Put}
use Rattle.dv_shared.specs.Stands.{gone_out}
use Rattle.dv_shared.proofs.adding.add_cut.Given as goal

-- the event that this call adds
abbrev pub ghosts-add_cut_as : goal.ghosts-add_cut_as
ghosts-add_cut_as g a = record { event = Put (gone_out (g.V.Station.content a.before.now.value.station) (g.V.Station.content a.register.now.station)) false }
