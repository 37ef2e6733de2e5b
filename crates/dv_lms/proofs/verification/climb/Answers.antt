use Rattle.std.proofs.Common.{◌≡◌, ◌+◌, ◌∙◌, refl, arith}
use Rattle.dv_lms.specs.Height.{levels}
use Rattle.dv_lms.specs.Verifies.{ancestor, sibling_in}
use Rattle.dv_lms.proofs.Ancestors.{ancestor_next}
use Rattle.dv_lms.proofs.verification.climb.Goals as goal

pub loop-level-init : goal.loop-level-init
unfolding ancestor
loop-level-init c = refl

pub loop-level-preserved : goal.loop-level-preserved
loop-level-preserved c =
    rw (ancestor_next c.args.id.now (sibling_in c.args.signature.now) (c.leaves.result + c.args.q) c.leaf_hash-hash.result c.loop-level.level, ← c.loop-level.invariant, ← c.hash_at-sibling.ensures)
    c.parent_hash-hash.ensures

pub returns : goal.returns
returns c =
    let all : c.loop-level.level ≡ levels c.args.height = omega arith in
    rw all at c.loop-level.invariant ∙ rw (c.leaf_hash-hash.ensures, c.leaves.ensures) refl
