-- A sync that works is the journal's.
use Rattle.dv_outside_mem.proofs.station.MemStationStation.sync.Goals as goal

pub returns-in-Works-clause-content : goal.returns-in-Works-clause-content
returns-in-Works-clause-content c = c.sync.ensures.syncs _
