use Rattle.std.proofs.Common.{◌≡◌, ◌*◌, ◌≤◌, take}
use Rattle.dv_lmots.specs.Lmots.{checksum}
use Rattle.dv_lmots.proofs.hashes.checksum.Given as goal

abbrev pub invariant-loop-digit : goal.invariant-loop-digit
invariant-loop-digit l = (l.sum ≡ checksum (take l.digit-index l.hash)) × (l.sum ≤ 255 * l.digit-index)
