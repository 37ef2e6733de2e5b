use Rattle.std.proofs.Common.{◌∙◌, ◌+◌, inl, sym, length, arith}
use Rattle.dv_outside.proofs.Moments.{leaves_then, leaves_weaker}
use Rattle.dv_outside.proofs.Counting.{spends_then, spends_less}
use Rattle.dv_register.proofs.StepLemmas.{staged_quiet, staged_behind, gate_after, opened_after, on_ok_then}
use Rattle.dv_register.proofs.steps.append.Goals as goal

pub set_gate-requires-clause-quiet : goal.set_gate-requires-clause-quiet
set_gate-requires-clause-quiet g c = λ told.
    let told_0 = (sym c.stage.ensures.tells) ∙ told in
    staged_quiet c.args.gate _ _ (c.requires.quiet told_0).within _ (c.in_ok-stage.ensures.staged told_0)

pub returns-in_err-stage-clause-images : goal.returns-in_err-stage-clause-images
returns-in_err-stage-clause-images g c = λ told. leaves_weaker _ _ _ _ (λ i at. inl at) (c.stage.ensures.images told)

pub returns-clause-images : goal.returns-clause-images
returns-clause-images g c = λ told.
    let told_1 = c.stage.ensures.tells ∙ told in
    let staged = c.in_ok-stage.ensures.staged told in
    leaves_then _ _ _ _ (leaves_weaker _ _ _ _ (λ i at. inl at) (c.stage.ensures.images told))
    (leaves_weaker _ _ _ _ (gate_after c.args.gate _ _ (c.requires.quiet told).within _ staged) (c.set_gate.ensures.images told_1 (staged_behind c.args.gate _ _ (c.requires.quiet told).within _ staged)))

pub returns-clause-appended : goal.returns-clause-appended
returns-clause-appended g c = λ told.
    let told_1 = c.stage.ensures.tells ∙ told in
    let staged = c.in_ok-stage.ensures.staged told in
    on_ok_then _ _ c.set_gate.result (c.set_gate.ensures.set told_1) (opened_after c.args.gate _ _ (c.requires.quiet told).within _ _ staged)

pub returns-clause-spends : goal.returns-clause-spends
returns-clause-spends g c =
    spends_less _ _ 6 (length c.args.contents.now + 7) _ _ (omega arith) (omega arith) (spends_then _ _ _ _ _ _ _ c.stage.ensures.spends c.set_gate.ensures.spends)

pub returns-in_err-stage-clause-spends : goal.returns-in_err-stage-clause-spends
returns-in_err-stage-clause-spends g c = spends_less _ _ 6 (length c.args.contents.now + 7) _ _ (omega arith) (omega arith) c.stage.ensures.spends
