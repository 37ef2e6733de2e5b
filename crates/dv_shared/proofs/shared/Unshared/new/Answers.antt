use Rattle.std.proofs.Common.{◌≡◌, ℕ, ◌+◌, length, sym, ap, ◌∙◌, arith}
use mir.Val.{bool_byte}
use Rattle.dv_register.specs.State.{State}
use Rattle.dv_shared.specs.Events.{first_events}
use Rattle.dv_shared.proofs.Standing.{length-first_events}
use Rattle.dv_shared.proofs.shared.Unshared.new.Goals as goal

pub new-requires : goal.new-requires
new-requires g c =
    let r = c.args.register in
    let all = ap (λ (s : State g.row.V.Denot). length (first_events s.list s.shut)) c.of.ensures ∙ length-first_events r.list r.shut in
    let shut : c.from-2.result ≡ bool_byte r.shut = c.from-2.ensures ∙ ap bool_byte c.is_shut.ensures in
    rw all (omega (arith, c.from.ensures, c.len.ensures.length, shut))
