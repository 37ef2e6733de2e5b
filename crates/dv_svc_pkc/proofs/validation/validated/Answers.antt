use Rattle.std.proofs.Common.{◌<◌, List, add-one, arith, length}
use Rattle.dv_schema.specs.Schema.{ValueOf}
use Rattle.dv_request.specs.DataView.{targets_of}
use Rattle.dv_request.specs.TargetView.{view_target}
use Rattle.dv_request.specs.Types.{target_chain}
use Rattle.dv_svc_pkc.specs.Outcomes.{checks_of}
use Rattle.dv_parts.proofs.Elements.{sum_one, sum_one_le, there}
use Rattle.dv_svc_pkc.proofs.Gained.{one_found}
use Rattle.dv_svc_pkc.proofs.validation.validated.Goals as goal

pub returns-in_err-finding-clause-steps : goal.returns-in_err-finding-clause-steps
returns-in_err-finding-clause-steps g c =
    let ts : List (ValueOf target_chain) = targets_of c.args.request.now.matter in
    let within : c.loop-i.i < length ts = omega (arith, c.requires.targets, c.args.request.now.counted, c.loop-i-test.true) in
    let t = there ts c.loop-i.i within in
    let sum = sum_one_le (checks_of (length c.args.trust.now)) ts c.loop-i.i t.0 t.1 in
    omega (arith, c.found.ensures.steps t.0 t.1, sum, c.loop-i.invariant.steps)

pub returns-in_err-push-clause-steps : goal.returns-in_err-push-clause-steps
returns-in_err-push-clause-steps g c =
    let ts : List (ValueOf target_chain) = targets_of c.args.request.now.matter in
    let t = view_target c.in_ok-finding.finding.target in
    let sum = sum_one_le (checks_of (length c.args.trust.now)) ts c.loop-i.i t c.in_ok-finding.ensures.target in
    omega (arith, c.in_ok-finding.ensures.steps t c.in_ok-finding.ensures.target, sum, c.loop-i.invariant.steps)

pub loop-i-preserved : goal.loop-i-preserved
loop-i-preserved g c =
    let ts : List (ValueOf target_chain) = targets_of c.args.request.now.matter in
    let f = c.in_ok-finding.finding in
    let at = c.in_ok-finding.ensures.target in
    let sum = sum_one (checks_of (length c.args.trust.now)) ts c.loop-i.i (view_target f.target) at in
    record {
      found = rw (add-one) (one_found c.args.trust.now c.args.when ts c.loop-i.i c.loop-i.findings.items c.push.new.self.items f c.loop-i.invariant.found at c.in_ok-finding.ensures.found c.in_ok-push.ensures.items);
      steps = omega (arith, c.in_ok-finding.ensures.steps (view_target f.target) at, sum, c.loop-i.invariant.steps);
    }
