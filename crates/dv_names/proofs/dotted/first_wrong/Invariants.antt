use Rattle.std.proofs.Common.{◌≡◌, List, ℕ, take, Some}
use Rattle.dv_names.proofs.DottedLemmas.{IsAt, run, start}
use Rattle.dv_names.proofs.dotted.first_wrong.Given as goal

abbrev pub invariant-loop-place : goal.invariant-loop-place
invariant-loop-place l =
    record {
      arcs : (done : List ℕ) × IsAt l.point.turn l.point.number done (take l.place l.text);
      ran : run (take l.place l.text) start ≡ Some l.point;
    }
