use Rattle.std.proofs.Common.{◌≡◌, [], take}
use Rattle.std.specs.List.{filter_map}
use Rattle.dv_request.specs.DataView.{targets_of}
use Rattle.dv_svc_pkc.specs.Certificates.{target_failure}
use Rattle.dv_svc_pkc.proofs.targets.failure.Given as goal

abbrev pub invariant-loop-i : goal.invariant-loop-i
invariant-loop-i l = filter_map target_failure (take l.i (targets_of l.request.matter)) ≡ []
