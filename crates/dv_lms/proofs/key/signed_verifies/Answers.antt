use Rattle.std.proofs.Common.{◌≡◌, length}
use Rattle.dv_lms.proofs.Signing.{Verifies-signature_of}
use Rattle.dv_lms.proofs.key.signed_verifies.Goals as goal

pub returns : goal.returns
returns c =
    let id : length c.args.key.now.id ≡ 16 = rw (← c.key.view_is) c.key.told.0 in
    Verifies-signature_of c.args.key.now c.args.message.now c.args.q id c.requires
    (rw (← c.key.view_is) c.signature_gives_key.ensures.form) (rw (← c.key.view_is) c.signature_gives_key.ensures.key)
