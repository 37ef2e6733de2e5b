use Rattle.std.proofs.Common.{◌≤◌, ◌+◌, ◌*◌, length}
use Rattle.dv_path.specs.Tables.{IsTable}
use Rattle.dv_path.proofs.table.issuing_table.Given as goal

abbrev pub invariant-loop-position : goal.invariant-loop-position
invariant-loop-position g l =
    record {
      entered : IsTable l.bag l.trust l.when l.table.graph l.table.anchors l.position;
      steps : l.checks ≤ l.initial.checks + l.position * (length l.bag + length l.trust);
    }
