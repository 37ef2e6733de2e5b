use Rattle.std.proofs.Common.{◌∙◌, Some, sym, ap, arith}
use Rattle.dv_request.specs.Information.{view_request_time}
use Rattle.dv_answer.specs.Steps.{is_after}
use Rattle.dv_answer.proofs.StepLemmas.{after_told}
use Rattle.dv_answer.proofs.steps.is_later.Goals as goal

pub returns-in-At : goal.returns-in-At
returns-in-At c =
    let told = after_told c.args.moment c.in-At.when (omega (arith, c.seconds-seconds.ensures.value, c.seconds-seconds.ensures.within)) in
    let is = ap (λ t. is_after c.args.moment (Some (view_request_time t))) c.in-At.is in
    c.lt.ensures ∙ sym told ∙ sym is
