-- What was written so far is the front of the octets.
use Rattle.dv_outside.proofs.Written.{HasWritten}
use Rattle.dv_outside.proofs.file_station.write_whole.Given as goal

abbrev pub invariant-loop : goal.invariant-loop
invariant-loop g l = HasWritten (g.W.Write.contents l.initial.out) (g.W.Write.contents l.out) l.bytes l.done
