use Rattle.std.proofs.Common.{◌≤◌, ◌+◌}
use Rattle.dv_x509.specs.View.{view_certificate}
use Rattle.dv_path.proofs.Issued.{IsNoneOf}
use Rattle.dv_path.proofs.issuing.first_anchor.Given as goal

abbrev pub invariant-loop-place : goal.invariant-loop-place
invariant-loop-place g l =
    record { none : IsNoneOf l.anchors (view_certificate l.certificate) l.when l.place; steps : l.checks ≤ l.initial.checks + l.place }
