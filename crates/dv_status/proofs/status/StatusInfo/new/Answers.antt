use Rattle.std.proofs.Common.{◌≡◌, sym, subst}
use Rattle.dv_status.proofs.StatusLemmas.{AreAllowed, status_fits, bits_allowed}
use Rattle.dv_status.proofs.status.StatusInfo.new.Goals as goal

pub invariant_of-result : goal.invariant_of-result
invariant_of-result c =
    let allowed : AreAllowed c.fail_of.result = subst AreAllowed (sym c.fail_of.ensures) (bits_allowed c.args.bit c.requires.bit) in
    record { spelled = ∣ status_fits c.args.status c.fail_of.result c.requires.status allowed ∣₁ }
