use Rattle.std.proofs.lemmas.Result.{on_ok_weaker}
use Rattle.dv_show.proofs.LineLemmas.{five_parts}
use Rattle.dv_show.proofs.line.push_certificate.Goals as goal

pub returns : goal.returns
returns c =
    on_ok_weaker c.push_status.result
    (λ e. five_parts _ _ _ _ _ _ _ _ _ _ _ c.in_ok-push_service.ensures c.in_ok-push_serial.ensures c.in_ok-push_time.ensures c.in_ok-push_imprint.ensures e)
    c.push_status.ensures
