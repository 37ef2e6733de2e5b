-- The file is what the calls so far made of it.
use Rattle.std.proofs.Common.{◌≡◌, take}
use Rattle.dv_outside_mem.specs.Replay.{start, after}
use Rattle.dv_outside_mem.proofs.image.replay.Given as goal

abbrev pub invariant-loop-call : goal.invariant-loop-call
invariant-loop-call l = l.file.items ≡ (after l.tape (start l.initial.file.items) (take l.call-index l.log)).reads
