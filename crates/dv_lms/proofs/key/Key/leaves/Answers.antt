use Rattle.std.proofs.Common.{◌+◌, ◌∙◌, arith, refl}
use Rattle.std.proofs.lemmas.List.{length-set}
use Rattle.dv_lms.specs.Tree.{node}
use Rattle.dv_lms.proofs.Heights.{leaf_count-le}
use Rattle.dv_lms.proofs.Rows.{written_more}
use Rattle.dv_lms.proofs.key.Key.leaves.Goals as goal

pub loop-k-preserved : goal.loop-k-preserved
unfolding node
loop-k-preserved c =
    let small = leaf_count-le c.args.self.now.height in (
      length-set c.loop-k.row c.loop-k.k c.leaf_hash.result ∙ c.loop-k.invariant.0,
      written_more (λ j. node c.args.self.now 0 (c.args.first + j)) c.loop-k.row c.loop-k.k c.leaf_hash.result (omega arith) c.loop-k.invariant.1
          (c.leaf_hash.ensures ∙ rw (c.public_of-ots_key.ensures, c.leaves.ensures, ← c.self.view_is) refl),
    )
