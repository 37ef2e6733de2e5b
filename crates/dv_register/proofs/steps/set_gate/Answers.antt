-- The write of a gate, and its sync.
use Rattle.std.proofs.Common.{◌∙◌}
use Rattle.dv_outside.proofs.Moments.{leaves_sync}
use Rattle.dv_register.proofs.StepLemmas.{gate_write, gate_written, on_ok_then}
use Rattle.dv_register.proofs.steps.set_gate.Goals as goal

pub returns-in_err-write_at-clause-images : goal.returns-in_err-write_at-clause-images
returns-in_err-write_at-clause-images g c = λ told behind. gate_write _ c.args.gate c.args.octet _ _ (c.requires.quiet told) behind (c.write_at.ensures.content told)

pub returns-clause-images : goal.returns-clause-images
returns-clause-images g c = λ told behind.
    let told_1 = c.write_at.ensures.tells ∙ told in
    leaves_sync _ _ _ _ _ (gate_write _ c.args.gate c.args.octet _ _ (c.requires.quiet told) behind (c.write_at.ensures.content told)) (c.sync.ensures.content told_1)

pub returns-clause-set : goal.returns-clause-set
returns-clause-set g c = λ told.
    let told_1 = c.write_at.ensures.tells ∙ told in
    let sync = c.sync.ensures.content told_1 in
    on_ok_then _ _ c.sync.result sync.durable (λ durable. record {
      is = sync.looks.reads ∙ gate_written c.args.gate c.args.octet _ _ (c.in_ok-write_at.ensures.content told).written;
      durable = durable;
    })
