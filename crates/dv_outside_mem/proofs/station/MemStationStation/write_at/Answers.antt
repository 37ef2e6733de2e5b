-- A write is the journal's, or past the room none.
use Rattle.std.proofs.Common.{refl}
use Rattle.dv_outside_mem.specs.Journal.{content}
use Rattle.dv_outside_mem.proofs.StationLemmas.{writes_none}
use Rattle.dv_outside_mem.proofs.station.MemStationStation.write_at.Goals as goal

pub returns-in-Works-clause-content : goal.returns-in-Works-clause-content
returns-in-Works-clause-content c = c.write.ensures.writes _ refl

pub returns-in-Fails-clause-content : goal.returns-in-Fails-clause-content
returns-in-Fails-clause-content c = c.write-in-Fails.ensures.writes _ tt

pub returns-in-Past-clause-content : goal.returns-in-Past-clause-content
returns-in-Past-clause-content c = writes_none (content c.args.self.now.journal) c.args.place c.args.bytes.now _
