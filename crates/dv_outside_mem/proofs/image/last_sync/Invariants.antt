-- The last sync among the calls so far.
use Rattle.std.proofs.Common.{take}
use Rattle.dv_outside_mem.specs.Image.{IsLastSync}
use Rattle.dv_outside_mem.proofs.image.last_sync.Given as goal

abbrev pub invariant-loop-i : goal.invariant-loop-i
invariant-loop-i l = IsLastSync (take l.i l.log) l.last
