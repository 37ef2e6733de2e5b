use Rattle.std.proofs.Common.{◌≡◌, ◌+◌, ◌*◌, ◌++◌, take, length}
use Rattle.dv_lmots.specs.Lmots.{joined, signed_value}
use Rattle.dv_lmots.proofs.plain.sign_ots.Given as goal

abbrev pub invariant-loop-i : goal.invariant-loop-i
invariant-loop-i l = (length l.octets ≡ 1124)
    × (take (36 + 32 * l.i) l.octets ≡ take 36 l.initial.octets ++ joined (signed_value l.id l.seed l.q l.digits) l.i)
