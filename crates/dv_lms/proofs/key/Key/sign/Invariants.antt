use Rattle.std.proofs.Common.{◌≡◌, ◌+◌, ◌*◌, ◌++◌, take, length}
use Rattle.dv_lmots.specs.Lmots.{joined}
use Rattle.dv_lms.specs.Tree.{path_node}
use Rattle.dv_lms.proofs.key.Key.sign.Given as goal

abbrev pub invariant-loop-level : goal.invariant-loop-level
invariant-loop-level l = (length l.octets ≡ 1296)
    × (take (1136 + 32 * l.level) l.octets ≡ take 1136 l.initial.octets ++ joined (path_node l.self l.q) l.level)
