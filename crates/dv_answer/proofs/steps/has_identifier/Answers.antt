use Rattle.std.proofs.Common.{◌∙◌}
use Rattle.dv_answer.proofs.PolicyLemmas.{no_policy, same_policy}
use Rattle.dv_answer.proofs.steps.has_identifier.Goals as goal

pub returns-in-Ok : goal.returns-in-Ok
returns-in-Ok c =
    c.same.ensures
    ∙ same_policy c.args.policy.now c.args.oid.now.octets.now c.in-Ok.own c.new.result c.decode.new.c c.requires c.args.oid.now.spelled c.new.ensures c.in-Ok.ensures

pub returns-in-Err : goal.returns-in-Err
returns-in-Err c = absurd (no_policy c.args.policy.now c.in-Err.field-0 c.new.result c.decode.new.c c.requires c.new.ensures c.in-Err.ensures)
