use Rattle.std.proofs.Common.{◌≡◌, [], ◌+◌, ◌*◌, ◌++◌, take, length}
use Rattle.std.specs.Prelude.{slice_index_or}
use Rattle.dv_lmots.specs.Lmots.{joined}
use Rattle.dv_lmots.proofs.lanes.sign_ots.Given as goal

abbrev pub invariant-loop-i : goal.invariant-loop-i
invariant-loop-i l = (length l.octets ≡ 1124)
    × (take (36 + 32 * l.i) l.octets ≡ take 36 l.initial.octets ++ joined (λ k. slice_index_or l.ends k []) l.i)
