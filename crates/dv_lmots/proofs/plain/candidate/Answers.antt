use Rattle.std.proofs.Common.{◌≡◌, ◌++◌, ◌∷◌, [], List, ℕ, ◌∙◌, subst, arith, refl}
use Rattle.sha2.specs.Hashers.{Holds256}
use Rattle.dv_lmots.specs.Lmots.{completed_value, key_from, id_and_number}
use Rattle.dv_lmots.proofs.Joined.{joined_next, joined_none}
use Rattle.dv_lmots.proofs.plain.candidate.Goals as goal

pub loop-i-init : goal.loop-i-init
loop-i-init c = rw joined_none c.key_hasher-hasher.ensures

pub loop-i-preserved : goal.loop-i-preserved
loop-i-preserved c =
    let prefix = id_and_number c.args.id.now c.args.q ++ 0x80 ∷ 0x80 ∷ [] in
    subst (λ (m : List ℕ). Holds256 c.update.new.self m)
    (joined_next prefix (completed_value c.args.id.now c.args.q c.digits-digits.result c.args.signature.now) c.loop-i.i _ (c.value.ensures ∙ rw (c.walk.ensures, c.new-chain.ensures, c.hash_at-value.ensures) refl))
    (c.update.ensures _ c.loop-i.invariant)

pub returns-clause-value : goal.returns-clause-value
unfolding key_from
returns-clause-value c =
    let all : c.loop-i.i ≡ 34 = omega arith in
    rw (← c.hash_at-c.ensures, ← c.digits-digits.ensures) (c.finalize.ensures _ (rw all at c.loop-i.invariant))
