use Rattle.std.proofs.Common.{◌++◌, ◌∷◌, []}
use Rattle.std.specs.Prelude.{slice_index_or}
use Rattle.sha2.specs.Hashers.{Holds256}
use Rattle.dv_lmots.specs.Lmots.{id_and_number, joined}
use Rattle.dv_lmots.proofs.hashes.key_from.Given as goal

abbrev pub invariant-loop-end : goal.invariant-loop-end
invariant-loop-end l = Holds256 l.hasher (id_and_number l.id l.q ++ 0x80 ∷ 0x80 ∷ [] ++ joined (λ i. slice_index_or l.ends i []) l.end-index)
