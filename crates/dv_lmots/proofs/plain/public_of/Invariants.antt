use Rattle.std.proofs.Common.{◌++◌, ◌∷◌, []}
use Rattle.sha2.specs.Hashers.{Holds256}
use Rattle.dv_lmots.specs.Lmots.{chain_end, joined, id_and_number}
use Rattle.dv_lmots.proofs.plain.public_of.Given as goal

abbrev pub invariant-loop-i : goal.invariant-loop-i
invariant-loop-i l = Holds256 l.hasher (id_and_number l.id l.q ++ 0x80 ∷ 0x80 ∷ [] ++ joined (chain_end l.id l.seed l.q) l.i)
