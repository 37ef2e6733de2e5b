use Rattle.std.proofs.Common.{append_assoc}
use Rattle.dv_lmots.specs.Lmots.{message_hash}
use Rattle.dv_lmots.proofs.hashes.message_hash.Goals as goal

pub returns : goal.returns
unfolding message_hash
returns c =
    let held = c.update-3.ensures _ (c.update-2.ensures _ (c.update.ensures _ c.leaf_hasher-hasher.ensures)) in
    c.finalize.ensures _ (rw append_assoc at held)
