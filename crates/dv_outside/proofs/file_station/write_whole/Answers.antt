-- Each turn of the loop takes the writing on, or leaves it where it was.
use Rattle.std.proofs.Common.{ℕ, subst, sym}
use Rattle.dv_outside.proofs.Written.{HasWritten, written_more, written_same}
use Rattle.dv_outside.proofs.file_station.write_whole.Goals as goal
use Rattle.dv_outside.proofs.file_station.write_whole.Goals.{in-Ok, in-Err}

pub loop-preserved : goal.loop-preserved
loop-preserved g c =
    let contents = g.W.Write.contents in
    let Reached = λ (done : ℕ). HasWritten (contents c.args.out.now) (contents c.write.new.self) c.args.bytes.now done in
    elim c.match-write.branch [
      | in-Ok w ↦ subst Reached (sym w.done-is)
          (written_more (contents c.args.out.now) (contents c.loop.out) (contents c.write.new.self) c.args.bytes.now c.loop.done w.in-Ok.n c.loop.invariant
          w.in-Ok.ensures.bound w.in-Ok.ensures.bytes)
      | in-Err w ↦ subst Reached (sym w.done-is)
          (written_same (contents c.args.out.now) (contents c.loop.out) (contents c.write.new.self) c.args.bytes.now c.loop.done c.loop.invariant w.in-Err.ensures.bytes)
    ]
