use Rattle.std.proofs.Common.{◌++◌, ◌∷◌, []}
use Rattle.sha2.specs.Hashers.{Holds256}
use Rattle.dv_lmots.specs.Lmots.{completed_value, joined, id_and_number}
use Rattle.dv_lmots.proofs.plain.candidate.Given as goal

abbrev pub invariant-loop-i : goal.invariant-loop-i
invariant-loop-i l = Holds256 l.hasher (id_and_number l.id l.q ++ 0x80 ∷ 0x80 ∷ [] ++ joined (completed_value l.id l.q l.digits l.signature) l.i)
