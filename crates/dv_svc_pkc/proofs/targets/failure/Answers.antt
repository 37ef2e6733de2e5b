use Rattle.std.proofs.Common.{◌≤◌, ◌∙◌, List, add-one, arith, length, sym}
use Rattle.dv_schema.specs.Schema.{ValueOf}
use Rattle.dv_request.specs.DataView.{targets_of}
use Rattle.dv_request.specs.Types.{target_chain}
use Rattle.dv_svc_pkc.specs.Certificates.{target_failure}
use Rattle.dv_svc_pkc.proofs.Failures.{few_failure, first_given, none_more}
use Rattle.dv_svc_pkc.proofs.targets.failure.Goals as goal

pub returns-then-is_some : goal.returns-then-is_some
returns-then-is_some c =
    let ts : List (ValueOf target_chain) = targets_of c.args.request.now.matter in
    let few : length ts ≤ 8 = omega (arith, c.requires, c.args.request.now.counted, c.if-targets-gt-TARGET_LIMIT.false) in
    let first = first_given target_failure ts c.loop-i.i c.in_ok-failure.failure c.loop-i.invariant c.in_ok-failure.ensures (sym c.is_some.ensures ∙ c.if-is_some.true) in
    sym (few_failure ts c.in_ok-failure.failure few first)

pub loop-i-preserved : goal.loop-i-preserved
loop-i-preserved c =
    let ts : List (ValueOf target_chain) = targets_of c.args.request.now.matter in
    rw (add-one) (none_more target_failure ts c.loop-i.i c.in_ok-failure.failure c.loop-i.invariant c.in_ok-failure.ensures (sym c.is_some.ensures ∙ c.if-is_some.false))
