use Rattle.std.proofs.Common.{◌≡◌, ◌≤◌, ◌+◌}
use Rattle.dv_x509.specs.View.{view_certificate}
use Rattle.dv_path.specs.Tables.{AddsIssuers}
use Rattle.dv_path.proofs.table.Table.add_issuers.Given as goal

abbrev pub invariant-loop-place : goal.invariant-loop-place
invariant-loop-place g l =
    record {
      added : AddsIssuers l.bag (view_certificate l.certificate) l.when l.initial.self.graph l.self.graph l.position l.place;
      anchors : l.self.anchors ≡ l.initial.self.anchors;
      steps : l.checks ≤ l.initial.checks + l.place;
    }
