use Rattle.std.proofs.Common.{◌≡◌, ◌++◌, ◌∷◌, [], ℕ, List, subst, arith, refl}
use Rattle.std.specs.Prelude.{slice_index_or}
use Rattle.sha2.specs.Hashers.{Holds256}
use Rattle.dv_lmots.specs.Lmots.{id_and_number, key_from}
use Rattle.dv_lmots.proofs.Joined.{joined_next, joined_none}
use Rattle.dv_lmots.proofs.hashes.key_from.Goals as goal

pub loop-end-init : goal.loop-end-init
loop-end-init c = rw joined_none c.key_hasher-hasher.ensures

pub loop-end-preserved : goal.loop-end-preserved
loop-end-preserved c =
    let prefix = id_and_number c.args.id.now c.args.q ++ 0x80 ∷ 0x80 ∷ [] in
    subst (λ (m : List ℕ). Holds256 c.update.new.self m)
    (joined_next prefix (λ i. slice_index_or c.args.ends.now i []) c.loop-end.end-index _ refl)
    (c.update.ensures _ c.loop-end.invariant)

pub returns : goal.returns
unfolding key_from
returns c =
    let all : c.loop-end.end-index ≡ 34 = omega arith in
    c.finalize.ensures _ (rw all at c.loop-end.invariant)
