use Rattle.std.proofs.Common.{◌≤◌, ◌+◌, length, sum_by, take}
use Rattle.dv_request.specs.DataView.{targets_of}
use Rattle.dv_svc_pkc.specs.Outcomes.{checks_of}
use Rattle.dv_svc_pkc.specs.Validated.{AreFindings}
use Rattle.dv_svc_pkc.proofs.validation.validated.Given as goal

abbrev pub invariant-loop-i : goal.invariant-loop-i
invariant-loop-i g l = record {
  found : AreFindings l.trust l.when (take l.i (targets_of l.request.matter)) l.findings.items;
  steps : l.checks ≤ l.fn.checks + sum_by (checks_of (length l.trust)) (take l.i (targets_of l.request.matter));
}
