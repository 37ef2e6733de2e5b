use Rattle.std.proofs.Common.{◌≤◌, length}
use Rattle.dv_request.specs.TargetView.{view_target}
use Rattle.dv_svc_pkc.specs.Slices.{octets_of}
use Rattle.dv_svc_pkc.proofs.Gathered.{Gathers}
use Rattle.dv_svc_pkc.proofs.certificates.certificates_of.Given as goal

abbrev pub invariant-loop-next : goal.invariant-loop-next
invariant-loop-next l = record {
  gathers : Gathers (view_target l.target) (octets_of l.certificates.items) l.next;
  few : length l.certificates.items ≤ 16;
}

abbrev pub decreases-loop-next : goal.decreases-loop-next
decreases-loop-next l = length l.next.rest
